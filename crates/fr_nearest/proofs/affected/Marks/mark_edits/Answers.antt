use Rattle.std.proofs.Common.{arith}
use Rattle.fr_nearest.specs.Affected.{IsEnd}
use Rattle.fr_nearest.proofs.Marking.{marked_all, marked_first, marked_more}
use Rattle.fr_nearest.proofs.affected.Marks.mark_edits.Goals as goal

pub mark_ends-requires-clause-below : goal.mark_ends-requires-clause-below
mark_ends-requires-clause-below c = rw c.loop-edit.invariant.long (c.requires.below
    c.loop-edit.edit-index _ c.loop-edit-test.true)

pub loop-edit-init : goal.loop-edit-init
loop-edit-init c = marked_first IsEnd IsEnd c.requires.marks

pub loop-edit-preserved : goal.loop-edit-preserved
loop-edit-preserved c = marked_more IsEnd IsEnd c.args.edits.now c.loop-edit.edit-index _ c.loop-edit-test.true
    c.loop-edit.invariant c.mark_ends.ensures

pub returns : goal.returns
returns c = marked_all IsEnd IsEnd c.args.edits.now c.loop-edit.edit-index
    (omega (arith, c.loop-edit-test.false)) c.loop-edit.invariant
