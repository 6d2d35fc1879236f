use Rattle.std.proofs.Common.{List, arith, subst, ℕ}
use Rattle.std.proofs.lemmas.List.{take_all}
use Rattle.fr_nearest.specs.Marks.{IsUnmarked}
use Rattle.fr_nearest.proofs.Marking.{unmarked_more, unmarked_none}
use Rattle.fr_nearest.proofs.affected.unmark.Goals as goal

pub loop-x-init : goal.loop-x-init
loop-x-init c = unmarked_none c.args.marked.now

pub loop-x-preserved : goal.loop-x-preserved
loop-x-preserved c = unmarked_more c.args.nodes.now c.loop-x.x-index c.loop-x-test.true
    (c.requires c.loop-x.x-index 0 c.loop-x-test.true) c.loop-x.invariant

pub returns : goal.returns
returns c = subst (λ (xs : List ℕ). IsUnmarked xs c.args.marked.now c.loop-x.marked)
    (take_all c.loop-x.x-index c.args.nodes.now (omega (arith, c.loop-x-test.false))) c.loop-x.invariant
