use Rattle.std.proofs.Common.{take}
use Rattle.fr_nearest.specs.Changes.{IsTakenOver}
use Rattle.fr_nearest.proofs.distance_changes.copy_and_unmark.Given as goal

abbrev pub invariant-loop-x : goal.invariant-loop-x
invariant-loop-x l = IsTakenOver l.distances (take l.x-index l.nodes) l.fn.before l.fn.noted l.before l.noted
