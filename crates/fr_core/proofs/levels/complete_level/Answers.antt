use Rattle.std.proofs.Common.{arith, slice_index}
use Rattle.fr_core.proofs.LevelSearches.{close_step}
use Rattle.fr_core.proofs.levels.complete_level.Goals as goal

pub loop-at-preserved : goal.loop-at-preserved
loop-at-preserved c =
    let net = c.args.net.now in
    let s = c.loop-at.invariant.search in
    let only = rw c.node.ensures at c.reach_neighbours.ensures.only in
    let reached = rw c.node.ensures at c.reach_neighbours.ensures.reached in
    record {
      search = close_step net.nodes (slice_index c.args.queue.now 0) net.links c.requires.net c.loop-at.counts
          c.loop-at.queue c.loop-at.at c.args.start c.args.start c.args.count s
          c.reach_neighbours.new.counts c.reach_neighbours.new.queue (omega arith) (omega arith) (omega arith) only
          reached;
      longer = omega (arith, c.reach_neighbours.ensures.only.longer);
      past = omega arith;
    }
