use Rattle.std.proofs.Common.{List, arith, length, slice_index, subst, ℕ, ◌≡◌}
use Rattle.fr_core.proofs.LevelSearches.{open_step}
use Rattle.fr_core.specs.LevelSearch.{IsLevelSearch}
use Rattle.fr_core.proofs.levels.start_next_level.Goals as goal

pub loop-at-preserved : goal.loop-at-preserved
loop-at-preserved c =
    let net = c.args.net.now in
    let q : List ℕ = c.args.queue.now in
    let s = c.loop-at.invariant.search in
    let only = rw c.node.ensures at c.reach_neighbours.ensures.only in
    let reached = rw c.node.ensures at c.reach_neighbours.ensures.reached in
    record {
      search =
          open_step net.nodes (slice_index q 0) net.links c.requires.net c.loop-at.counts c.loop-at.queue (length q)
          c.loop-at.at (length q) c.args.count s
          c.reach_neighbours.new.counts c.reach_neighbours.new.queue (omega arith) (omega arith) only reached;
      longer = omega (arith, c.reach_neighbours.ensures.only.longer);
    }

pub returns-clause-search : goal.returns-clause-search
returns-clause-search c =
    let net = c.args.net.now in
    let q : List ℕ = c.args.queue.now in
    let e : c.loop-at.at ≡ length q = omega (arith, c.loop-at.invariant.search.opened_in) in
    subst (λ (z : ℕ). IsLevelSearch net.nodes (slice_index q 0) net.links c.loop-at.counts c.loop-at.queue (length q) z
    (length q) c.args.count) e c.loop-at.invariant.search
