use Rattle.std.proofs.Common.{◌≡◌, ◌<◌, ℕ, length}
use Rattle.fr_nearest.specs.Ways.{AreWays}
use Rattle.fr_ways.specs.Ways.{ways}
use Rattle.fr_route.proofs.kept_distances.table_of_ways.Given as goal

abbrev pub invariant-loop-x : goal.invariant-loop-x
invariant-loop-x l = (length l.table ≡ l.x)
    × ((y : ℕ) → y < l.x → AreWays l.fn.net.links l.fn.distances.dest y (ways l.table y))
