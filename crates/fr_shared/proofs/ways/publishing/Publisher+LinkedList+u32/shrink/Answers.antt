use Rattle.std.proofs.Common.{arith, ◌≡◌}
use Rattle.fr_shared.proofs.WayPushing.{all_shrunk, shrink_more}
use Rattle.fr_shared.proofs.ways.publishing.Publisher+LinkedList+u32.shrink.Goals as goal

pub loop-x-preserved : goal.loop-x-preserved
loop-x-preserved c = record {
  low = omega (arith, c.loop-x-test.true, c.nodes-x-end.ensures);
  pushed = shrink_more c.args.self.now c.loop-x.self c.shrink_node.new.self c.args.new.now c.loop-x.x
      c.args.emptied c.loop-x.invariant.pushed c.shrink_node.ensures;
}

pub returns-clause-ways : goal.returns-clause-ways
returns-clause-ways c =
    let all : c.loop-x.x ≡ c.args.self.now.nodes =
    omega (arith, c.loop-x.invariant.low, c.loop-x-test.false, c.nodes-x-end.ensures) in
    all_shrunk c.args.self.now c.loop-x.self c.args.new.now c.args.emptied c.requires
    (rw all at c.loop-x.invariant.pushed)
