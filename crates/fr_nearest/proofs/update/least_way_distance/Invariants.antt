use Rattle.fr_nearest.specs.Update.{IsLeast}
use Rattle.fr_nearest.proofs.update.least_way_distance.Given as goal

abbrev pub invariant-loop-w : goal.invariant-loop-w
invariant-loop-w l = IsLeast l.distances l.row l.w-index l.least
