-- The value of a `Reroutes` in contracts. For proofs only.
use Rattle.fr_route.specs.Listing.{AsksWays, nodes_told, ways_told}
use Rattle.fr_route.specs.Reroutes.{Rerouted}
use Rattle.fr_route.specs.declared.reroutes.Reroutes.TheInside.{Inside}

abbrev pub rerouted_in : Inside → Rerouted
rerouted_in r = record {
  nodes = nodes_told r.told;
  shrink = (ways_told r.told).shrink;
  grow = (ways_told r.told).grow;
}

abbrev pub IsAsking : Inside → Type 0
IsAsking r = AsksWays r.told
