use Rattle.fr_route.proofs.OutByRow.{AreInward}
use Rattle.fr_route.proofs.hops.lowest_outward_neighbour.Given as goal

abbrev pub invariant-loop-w : goal.invariant-loop-w
invariant-loop-w l = AreInward l.row l.w-index
