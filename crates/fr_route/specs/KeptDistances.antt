-- The distances of a router, which are kept once somebody has asked for them. For proofs only.
use Rattle.std.specs.Prelude.{◌≡◌, IsTrue, length}
use Rattle.fr_route.specs.NodeWays.{HasDistances}
use Rattle.fr_route.specs.States.{State}
use Rattle.fr_route.specs.declared.kept_distances.KeptDistances.{KeptDistances}

-- there is a number for each node, and once distances are kept, the numbers are the distances in this state
pub record KeepsDistances (s : State) (kept : KeptDistances) : Type 0 where
  pub one_each : length kept.table.table ≡ s.nodes
  pub distances : IsTrue kept.are_kept → HasDistances s kept.table
