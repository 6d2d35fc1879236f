-- The ways of the nodes of a settled network, and routes of the fewest links along them. This project's own.
use Rattle.std.specs.Prelude.{◌≡◌, ℕ, ◌<◌, ◌⊎◌, List, ◌∷◌, length, slice_index, MatchOption, Option}
use Rattle.std.specs.List.{All}
use Rattle.fr_graph.specs.Links.{Points}
use Rattle.fr_graph.specs.Network.{Network}
use Rattle.fr_graph.specs.declared.edit.Edit.{Edit}
use Rattle.fr_nearest.specs.Distances.{AreDistances, IsDistance, Measured}
use Rattle.fr_nearest.specs.LinkChanges.{HasEndsBelow, IsAdded, IsCut}
use Rattle.fr_nearest.specs.Ways.{AreWays, IsNearestWalk}
use Rattle.fr_ways.specs.Ways.{ways}
use Rattle.fr_route.specs.States.{State, IsCutOff}
use Rattle.fr_route.specs.declared.hops.Walked.{Walked}
use Rattle.fr_route.specs.declared.hops.Walked.TheVariants.{Route, CutOff}

-- the table has the distance of each node in this state
pub record HasDistances (s : State) (m : Measured) : Type 0 where
  pub dest : m.dest ≡ s.dest
  pub table : AreDistances s.nodes s.links s.dest m.table

-- the distance of x, or that x is cut off
abbrev pub HasDistance : State → ℕ → Option ℕ → Type 0
HasDistance s x distance = MatchOption distance (IsCutOff s.dest s.links x) (IsDistance s.links s.dest x)

-- x or w has turned
abbrev pub HasTurnedEnd : List ℕ → ℕ → ℕ → Type 0
HasTurnedEnd counts x w = (0 < slice_index counts x) ⊎ (0 < slice_index counts w)

-- The table has the distances of an earlier state. Each link of that state has been removed by an edit, or it is there
-- now, or it has been reversed at an end that has turned. Each link now has been added by an edit, or it was there, or an
-- end of it has turned. For proofs only.
pub record AreOldDistances (net : Network) (counts : List ℕ) (edits : List Edit) (m : Measured) : Type 0 where
  pub links : List (ℕ × ℕ)
  pub node : m.dest < net.nodes
  pub were : AreDistances net.nodes links m.dest m.table
  pub counted : length counts ≡ net.nodes
  pub ends : All (HasEndsBelow net.nodes) edits
  pub kept : (x w : ℕ) → Points links x w
      → IsCut edits x w ⊎ (Points net.links x w ⊎ (Points net.links w x × HasTurnedEnd counts x w))
  pub new : (x w : ℕ) → Points net.links x w → IsAdded edits x w ⊎ (Points links x w ⊎ HasTurnedEnd counts x w)

-- the ways of x, nearest first
abbrev pub AreNodeWays : State → ℕ → List ℕ → Type 0
AreNodeWays s x list = AreWays s.links s.dest x list

-- for each number below n its ways. A number that is not a node has none
pub record AreWaysBelow (s : State) (n : ℕ) (table : List (List ℕ)) : Type 0 where
  pub one_each : length table ≡ n
  pub each : (x : ℕ) → x < n → AreNodeWays s x (ways table x)

-- for each node its ways
abbrev pub AreAllWays : State → List (List ℕ) → Type 0
AreAllWays s table = AreWaysBelow s s.nodes table

-- a route from x along these nodes, each the nearest way of the one before
abbrev pub IsNearestRoute : State → ℕ → List ℕ → Type 0
IsNearestRoute s x rest = IsNearestWalk s.links s.dest x rest

-- the answer for x: the nodes of this route, beginning with x, or that there is none
abbrev pub IsNearest : State → ℕ → Walked → Type 0
IsNearest s x (Route nodes) = (rest : List ℕ) × IsNearestRoute s x rest × (nodes.items ≡ x ∷ rest)
IsNearest s x CutOff = IsCutOff s.dest s.links x
