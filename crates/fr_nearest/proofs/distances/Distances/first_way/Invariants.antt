use Rattle.std.proofs.Common.{◌≤◌}
use Rattle.fr_nearest.specs.Distances.{no_distance}
use Rattle.fr_nearest.specs.Ranks.{IsBestSo}
use Rattle.fr_nearest.proofs.distances.Distances.first_way.Given as goal

abbrev pub invariant-loop-w : goal.invariant-loop-w
invariant-loop-w l = record {
  best : IsBestSo l.distances l.row l.w-index l.least l.nearest;
  most : l.least ≤ no_distance;
}
