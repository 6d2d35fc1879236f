use Rattle.std.proofs.Common.{take}
use Rattle.fr_nearest.specs.Affected.{HasOne, IsEnd}
use Rattle.fr_nearest.specs.Marks.{HasMarked}
use Rattle.fr_nearest.proofs.affected.Marks.mark_edits.Given as goal

abbrev pub invariant-loop-edit : goal.invariant-loop-edit
invariant-loop-edit l = HasMarked
    (HasOne IsEnd (take l.edit-index l.edits))
    (HasOne IsEnd (take l.edit-index l.edits)) l.fn.self l.self
