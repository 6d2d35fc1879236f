-- The ways of nodes, and routes of the fewest links, as answers to questions. This project's own.
use Rattle.std.specs.Prelude.{◌≡◌, ℕ, ◌<◌, ◌≤◌, ◌⊎◌, ◌∷◌, List, length, Option, Some, None}
use Rattle.std.specs.List.{concat}
use Rattle.fr_nearest.specs.Distances.{IsDistance}
use Rattle.fr_route.specs.NodeWays.{AreAllWays, AreNodeWays, IsNearestRoute}
use Rattle.fr_route.specs.States.{State, IsCutOff}
use Rattle.fr_ways.specs.Rows.{AreStarts}
use Rattle.revroute_c.specs.Questions.{HasNoRoute, cut_off, no_network, no_node}
use Rattle.revroute_c.specs.Replies.{IsWritten, Outcome}
use Rattle.revroute_c.specs.Statuses.{REVROUTE_ANSWERED, REVROUTE_TOO_SHORT, REVROUTE_NO_NETWORK, REVROUTE_NO_ROUTE}

-- x has a route to the destination: it is a node, and not cut off
abbrev pub HasRoute : State → ℕ → Type 0
HasRoute s x = (x < s.nodes) × ¬ IsCutOff s.dest s.links x

abbrev pub HasRouteIn : Option State → ℕ → Type 0
HasRouteIn None x = ⊥
HasRouteIn (Some s) x = HasRoute s x

-- the status says why there is no route from x
abbrev pub SaysWhyNone : Option State → ℕ → ℕ → Type 0
SaysWhyNone None x status = status ≡ REVROUTE_NO_NETWORK
SaysWhyNone (Some s) x status = (status ≡ REVROUTE_NO_ROUTE) × HasNoRoute s x

-- the ways of x, nearest first
abbrev pub AreWaysFrom : Option State → ℕ → List ℕ → Type 0
AreWaysFrom None x list = ⊥
AreWaysFrom (Some s) x list = HasRoute s x × AreNodeWays s x list

-- these nodes are a route from x along nearest ways, beginning with x
abbrev pub IsNearestFrom : Option State → ℕ → List ℕ → Type 0
IsNearestFrom None x nodes = ⊥
IsNearestFrom (Some s) x nodes = (x < s.nodes) × ((rest : List ℕ) × IsNearestRoute s x rest × (nodes ≡ x ∷ rest))

-- the distance of x as a number, or the value for a node that is cut off
abbrev pub IsDistanceNumber : State → ℕ → ℕ → Type 0
IsDistanceNumber s x number =
    (IsCutOff s.dest s.links x × (number ≡ cut_off)) ⊎ IsDistance s.links s.dest x number

-- the answer for any x and any session
abbrev pub TellsDistance : Option State → ℕ → ℕ → Type 0
TellsDistance None x number = number ≡ no_network
TellsDistance (Some s) x number =
    ((s.nodes ≤ x) × (number ≡ no_node)) ⊎ ((x < s.nodes) × IsDistanceNumber s x number)

-- the ways of each node
abbrev pub AreWaysOfAll : Option State → List (List ℕ) → Type 0
AreWaysOfAll None table = ⊥
AreWaysOfAll (Some s) table = AreAllWays s table

-- the lists of a table are in two places: in one where each list begins, in the other one list after the other
pub record AreRowsWritten (table : List (List ℕ)) (starts ways : Outcome ℕ) : Type 0 where
  pub numbers : List ℕ
  pub are : AreStarts table numbers
  pub begins : IsWritten numbers starts.before starts.after
  pub lists : IsWritten (concat table) ways.before ways.after

-- one of the places is too short for the table
abbrev pub IsTooLong : List (List ℕ) → Outcome ℕ → Outcome ℕ → Type 0
IsTooLong table starts ways =
    (length starts.before ≤ length table) ⊎ (length ways.before < length (concat table))

-- `size` is how many ways all nodes have
abbrev pub IsSizeOfAll : Option State → ℕ → List (List ℕ) → Type 0
IsSizeOfAll session size table = AreWaysOfAll session table × (size ≡ length (concat table))

-- a call that writes the ways of each node to two places. Both outcomes have its status and `size`
pub record GivesAllWays (session : Option State) (starts ways : Outcome ℕ) : Type 0 where
  pub written : ways.status ≡ REVROUTE_ANSWERED
      → (table : List (List ℕ)) × IsSizeOfAll session ways.size table × AreRowsWritten table starts ways
  pub too_short : ways.status ≡ REVROUTE_TOO_SHORT
      → (table : List (List ℕ)) × IsSizeOfAll session ways.size table × IsTooLong table starts ways
  pub unchanged : ¬ (ways.status ≡ REVROUTE_ANSWERED)
      → (starts.after ≡ starts.before) × (ways.after ≡ ways.before)
  pub none : REVROUTE_TOO_SHORT < ways.status → ways.size ≡ 0
