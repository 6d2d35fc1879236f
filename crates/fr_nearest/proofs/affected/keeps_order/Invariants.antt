use Rattle.fr_nearest.specs.Marks.{IsAlikeAt}
use Rattle.fr_nearest.specs.Update.{HoldTo}
use Rattle.fr_nearest.proofs.affected.keeps_order.Given as goal

abbrev pub invariant-loop-u : goal.invariant-loop-u
invariant-loop-u l = HoldTo l.row l.u-index (IsAlikeAt l.before l.table l.w)
