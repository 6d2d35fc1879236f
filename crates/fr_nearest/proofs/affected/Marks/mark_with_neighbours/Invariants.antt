use Rattle.std.proofs.Common.{take}
use Rattle.fr_nearest.specs.Affected.{HasOne}
use Rattle.fr_nearest.specs.Marks.{HasMarked, IsNeighbour}
use Rattle.fr_nearest.proofs.affected.Marks.mark_with_neighbours.Given as goal

abbrev pub invariant-loop-w : goal.invariant-loop-w
invariant-loop-w l = HasMarked
    (HasOne IsNeighbour (take l.w-index l.row))
    (HasOne IsNeighbour (take l.w-index l.row)) l.initial.self l.self
