use Rattle.std.proofs.Common.{take}
use Rattle.fr_nearest.specs.Affected.{HasOne}
use Rattle.fr_nearest.specs.Marks.{HasMarked, IsBehind, IsReordered}
use Rattle.fr_nearest.proofs.affected.Marks.mark_changed.Given as goal

abbrev pub invariant-loop-w : goal.invariant-loop-w
invariant-loop-w l =
    HasMarked (HasOne (IsReordered l.net.links l.distances.before l.distances.table) (take l.w-index l.changed))
    (HasOne (IsBehind l.net.links) (take l.w-index l.changed)) l.fn.self l.self
