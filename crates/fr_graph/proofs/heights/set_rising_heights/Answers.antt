use Rattle.std.proofs.Common.{arith, get_or, length-set, take, take_all, ◌+◌}
use Rattle.std.proofs.lemmas.List.{length-take-le, take_more}
use Rattle.fr_graph.proofs.StackedNodes.{one_more_stacked}
use Rattle.fr_graph.proofs.heights.set_rising_heights.Goals as goal

pub loop-x-preserved : goal.loop-x-preserved
loop-x-preserved c =
    let nodes = c.args.nodes.now in
    let i = c.loop-x.x-index in
    let inside = c.requires.nodes i 0 c.loop-x-test.true in
    let front = length-take-le i nodes (omega arith) in
    record {
      height = omega arith;
      one_each = simp length-set (omega arith);
      stacked = rw (take_more nodes i 0 c.loop-x-test.true)
          (one_more_stacked (take i nodes) (get_or nodes i 0) c.args.base c.args.step (c.loop-x.height + c.args.step)
          c.args.of.now c.loop-x.of c.loop-x.invariant.stacked (omega (arith, inside)) (rw front (omega arith)));
    }

pub returns-clause-stacked : goal.returns-clause-stacked
returns-clause-stacked c =
    rw (take_all c.loop-x.x-index c.args.nodes.now c.loop-x-test.false) at c.loop-x.invariant.stacked
