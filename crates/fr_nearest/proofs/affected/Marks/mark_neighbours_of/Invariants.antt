use Rattle.std.proofs.Common.{take}
use Rattle.fr_nearest.specs.Affected.{HasOne}
use Rattle.fr_nearest.specs.Marks.{HasMarked, IsInward, IsReorderedAt}
use Rattle.fr_nearest.proofs.affected.Marks.mark_neighbours_of.Given as goal

abbrev pub invariant-loop-y : goal.invariant-loop-y
invariant-loop-y l = HasMarked
    (HasOne (IsReorderedAt l.net.links l.distances.before l.distances.table l.w) (take l.y-index l.row))
    (HasOne IsInward (take l.y-index l.row)) l.fn.self l.self
