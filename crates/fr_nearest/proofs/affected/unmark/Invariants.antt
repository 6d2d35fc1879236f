use Rattle.std.proofs.Common.{take}
use Rattle.fr_nearest.specs.Marks.{IsUnmarked}
use Rattle.fr_nearest.proofs.affected.unmark.Given as goal

abbrev pub invariant-loop-x : goal.invariant-loop-x
invariant-loop-x l = IsUnmarked (take l.x-index l.nodes) l.fn.marked l.marked
