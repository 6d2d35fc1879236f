use Rattle.std.proofs.Common.{arith, ◌≡◌}
use Rattle.fr_shared.proofs.WayPushing.{grow_more, pushed_part, table_grown}
use Rattle.fr_shared.proofs.ways.publishing.Publisher+LinkedList+u32.grow.Goals as goal

pub loop-x-preserved : goal.loop-x-preserved
loop-x-preserved c = record {
  low = omega (arith, c.loop-x-test.true, c.nodes-x-end.ensures);
  pushed = grow_more c.args.self.now c.loop-x.self c.grow_node.new.self c.args.new.now c.loop-x.x
      c.loop-x.invariant.pushed c.grow_node.ensures;
}

pub returns-clause-table : goal.returns-clause-table
returns-clause-table c =
    let all : c.loop-x.x ≡ c.args.self.now.nodes =
    omega (arith, c.loop-x.invariant.low, c.loop-x-test.false, c.nodes-x-end.ensures) in
    table_grown c.args.self.now c.loop-x.self c.args.new.now c.requires.new.one_each
    (rw all at c.loop-x.invariant.pushed)

pub grow_node-requires-clause-part : goal.grow_node-requires-clause-part
grow_node-requires-clause-part c =
    pushed_part c.loop-x.invariant.pushed c.loop-x.invariant.low c.args.new.now c.requires.part (λ y z found. found)
