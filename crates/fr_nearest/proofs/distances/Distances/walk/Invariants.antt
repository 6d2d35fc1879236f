use Rattle.std.proofs.Common.{length, slice_index, vec_capacity, ◌+◌, ◌<◌, ◌≤◌, ◌≢◌}
use Rattle.fr_nearest.specs.Distances.{no_distance}
use Rattle.fr_nearest.proofs.Walking.{GoesOn}
use Rattle.fr_nearest.proofs.distances.Distances.walk.Given as goal

abbrev pub invariant-ways : goal.invariant-ways
invariant-ways l = record {
  low : l.at < l.net.nodes;
  some : slice_index l.self.table l.at ≢ no_distance;
  room : length l.walk.items + slice_index l.self.table l.at ≤ vec_capacity l.walk;
  goes : GoesOn l.net.links l.self.dest l.x l.at l.walk.items;
}

abbrev pub decreases-ways : goal.decreases-ways
decreases-ways l = slice_index l.self.table l.at
