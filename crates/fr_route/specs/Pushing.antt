-- The pushes from a table of the caller to another, and why a request for them is refused: the definition of
-- docs/LINES.md. This project's own.
use Rattle.std.specs.Prelude.{◌≡◌, ℕ, ◌<◌, ◌≤◌, ◌-◌, ◌⊎◌, List, [], ◌∷◌, ◌++◌, length, map, max, replicate}
use Rattle.std.specs.Prelude.{slice_get, slice_index, Option, Some, None}
use Rattle.fr_graph.specs.Limits.{most_nodes}
use Rattle.fr_requests.specs.Requests.{PlainRequest, order_pushes}
use Rattle.fr_route.specs.Routes.{AreHops}
use Rattle.fr_route.specs.States.{State}
use Rattle.fr_tables.specs.Faults.{IsLowestLoop, IsOrdered}
use Rattle.fr_tables.specs.Tables.{IsFirstOutside, IsInRange}
use Rattle.fr_tables.specs.declared.hop.Hop.{Hop}
use Rattle.fr_tables.specs.declared.hop.Hop.TheVariants.{CutOff}

-- the hops of the numbers below n. A number past the end of the table is cut off
abbrev pub padded : ℕ → List Hop → List Hop
padded n table = table ++ replicate (n - length table) CutOff

-- the hop at a place of a table. A number past its end is cut off
abbrev pub hop_in : Option Hop → Hop
hop_in None = CutOff
hop_in (Some hop) = hop

-- each of these numbers with its hop in a table
abbrev pub changes_of : List Hop → List ℕ → List (ℕ × Hop)
changes_of hops numbers = map (λ x. (x, hop_in (slice_get hops x))) numbers

-- the lowest loop of a table, whose first node is named again at the end
abbrev pub IsNamedLoop : List Hop → List ℕ → Type 0
IsNamedLoop table nodes = (loop : List ℕ) × IsLowestLoop table loop × (nodes ≡ loop ++ slice_index loop 0 ∷ [])

-- pushes that lead from one table to another, in push order: each node with its new hop
abbrev pub LeadTo : List Hop → List Hop → List (ℕ × Hop) → Type 0
LeadTo old new pushes = (order : List ℕ) × IsOrdered old new order × (pushes ≡ changes_of new order)

-- no pushes lead there, with the number of the refusal and the nodes that show it: a hop names a number that is not a
-- node, or the new table has a loop
abbrev pub IsTablesFault : List Hop → List Hop → ℕ → List ℕ → Type 0
IsTablesFault old new number nodes =
    ((x : ℕ) × (IsFirstOutside old x ⊎ (IsInRange old × IsFirstOutside new x)) × (number ≡ 4) × (nodes ≡ x ∷ []))
    ⊎ (IsInRange old × IsInRange new × IsNamedLoop new nodes × (number ≡ 7))

-- the pushes from a table to these hops, and why there are none. A table that is longer names a number past them
abbrev pub LeadFrom : List Hop → List Hop → List (ℕ × Hop) → Type 0
LeadFrom table hops pushes = (max (length hops) (length table) ≤ most_nodes) × (length table ≤ length hops)
    × LeadTo (padded (length hops) table) hops pushes

abbrev pub IsFaultFrom : List Hop → List Hop → ℕ → List ℕ → Type 0
IsFaultFrom table hops number nodes =
    ((most_nodes < max (length hops) (length table)) × (number ≡ 9) × (nodes ≡ []))
    ⊎ (((max (length hops) (length table) ≤ most_nodes) × (length hops < length table) × (number ≡ 4)
    × (nodes ≡ length hops ∷ []))
    ⊎ ((max (length hops) (length table) ≤ most_nodes) × (length table ≤ length hops)
    × IsTablesFault (padded (length hops) table) hops number nodes))

-- the pushes from a table to the wanted table, or to the hops of the state
abbrev pub AreTablePushes : Option State → List Hop → Option (List Hop) → List (ℕ × Hop) → Type 0
AreTablePushes s table (Some wanted) pushes =
    LeadFrom table (padded (max (length table) (length wanted)) wanted) pushes
AreTablePushes None table None pushes = ⊥
AreTablePushes (Some s) table None pushes = (hops : List Hop) × AreHops s s.nodes hops × LeadFrom table hops pushes

-- why a request for these pushes is refused
abbrev pub IsPushesRefused : Option State → List Hop → Option (List Hop) → ℕ → List ℕ → Type 0
IsPushesRefused s table (Some wanted) number nodes =
    IsFaultFrom table (padded (max (length table) (length wanted)) wanted) number nodes
IsPushesRefused None table None number nodes = (number ≡ 3) × (nodes ≡ [])
IsPushesRefused (Some s) table None number nodes = (hops : List Hop) × AreHops s s.nodes hops
    × IsFaultFrom table hops number nodes

-- the request asks for pushes between tables, and these are they
abbrev pub AreAsked : Option State → PlainRequest → List (ℕ × Hop) → Type 0
AreAsked s (order_pushes table wanted) pushes = AreTablePushes s table wanted pushes
AreAsked s request pushes = ⊥
