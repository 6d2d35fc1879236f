-- The state of the search for a path, from both ends. For proofs only.
use Rattle.std.specs.Prelude.{◌≡◌, ℕ, ◌<◌, ◌≤◌, ◌+◌, ◌-◌, ◌++◌, ◌⊎◌, Bool, true, false, List, [], ◌∷◌}
use Rattle.std.specs.Prelude.{length, slice_index, slice_index_or, slice_set, vec_capacity, count_by}
use Rattle.std.specs.List.{All, Contains}
use Rattle.fr_graph.specs.Heights.{AreFalling, FitBetween}
use Rattle.fr_graph.specs.KeptRows.{ShowsNet, net_in}
use Rattle.fr_graph.specs.Links.{HasPath, Points}
use Rattle.fr_graph.specs.Network.{Network}
use Rattle.fr_graph.specs.RowLists.{opposite}
use Rattle.fr_graph.specs.Tables.{Table}
use Rattle.fr_graph.specs.declared.path_search.Met.{Met}
use Rattle.fr_graph.specs.declared.path_search.Met.TheVariants.{Never, Forward, Backward}
use Rattle.fr_graph.specs.declared.path_search.Side.{Side}
use Rattle.fr_graph.specs.declared.path_search.PathAnswer.{PathAnswer}
use Rattle.fr_graph.specs.declared.path_search.PathAnswer.TheVariants.{Leads, Ends}
use Rattle.fr_graph.specs.declared.first.First.{First}
use Rattle.fr_graph.specs.declared.first.First.TheVariants.{Outward, Inward}

-- a link leads on from x to w: along the link for one side of the search, against it for the other
abbrev pub LeadsOn : First → List (ℕ × ℕ) → ℕ → ℕ → Type 0
LeadsOn Outward links x w = Points links x w
LeadsOn Inward links x w = Points links w x

-- in the same sense, a height lies on from another one: below it for the side that goes along the links, above it for
-- the other
abbrev pub LiesOn : First → ℕ → ℕ → Type 0
LiesOn Outward own height = height < own
LiesOn Inward own height = own < height

-- in the same sense, a path leads on from x to w
abbrev pub HasPathOn : First → List (ℕ × ℕ) → ℕ → ℕ → Type 0
HasPathOn Outward links x w = HasPath links x w
HasPathOn Inward links x w = HasPath links w x

-- the mark of the nodes that the side going this way has met
abbrev pub met_by : First → Met
met_by Outward = Forward
met_by Inward = Backward

-- which side has met x
abbrev pub met_of : List Met → ℕ → Met
met_of met x = slice_index_or met x Never

-- the side going this way has met x
abbrev pub HasMet : First → List Met → ℕ → Type 0
HasMet first met x = met_of met x ≡ met_by first

abbrev pub is_never : Met → Bool
is_never Never = true
is_never Forward = false
is_never Backward = false

-- how many nodes no side has met
abbrev pub never_count : List Met → ℕ
never_count met = count_by is_never met

-- the node that the side started from
abbrev pub start_of : Side → ℕ
start_of side = slice_index side.nodes.items 0

-- the side has room for each node that no side has met
abbrev pub HasRoom : Side → List Met → Type 0
HasRoom side met = length side.nodes.items + never_count met ≤ vec_capacity side.nodes

-- the height lies beyond the limit: below it for the side that goes along the links, above it for the other
abbrev pub IsBeyond : First → ℕ → ℕ → Type 0
IsBeyond Outward limit height = height < limit
IsBeyond Inward limit height = limit < height

-- the height is at the edge or farther away
abbrev pub IsPast : First → ℕ → ℕ → Type 0
IsPast Outward edge height = height ≤ edge
IsPast Inward edge height = edge ≤ height

-- the side skips nodes of this height
pub record IsLeftAside (side : Side) (height : ℕ) : Type 0 where
  pub beyond : IsBeyond side.first side.limit height
  pub past : IsPast side.first side.edge height

-- the rows are those of a network, there is one height for each node, and all links fall
pub record AreFallingRows (rows : Table) (heights : List ℕ) : Type 0 where
  pub shown : ShowsNet rows
  pub one_each : length heights ≡ length rows.rows
  pub falling : AreFalling heights (net_in rows).links

-- the side has met x, which has this height, or has skipped it
abbrev pub IsMetOrAside : First → Side → List Met → ℕ → ℕ → Type 0
IsMetOrAside first side met x height = HasMet first met x ⊎ IsLeftAside side height

-- the side is unchanged, except that its edge may have come nearer
pub record HasMovedEdge (before after : Side) : Type 0 where
  pub same_first : after.first ≡ before.first
  pub same_limit : after.limit ≡ before.limit
  pub nearer : (height : ℕ) → IsPast before.first before.edge height → IsPast before.first after.edge height
  pub same_nodes : after.nodes ≡ before.nodes
  pub same_read : after.read ≡ before.read

-- the side has met only its start. It goes this way, up to the limit, and has room for so many nodes
pub record HasBegun (first : First) (start limit nodes : ℕ) (side : Side) : Type 0 where
  pub first_is : side.first ≡ first
  pub limit_is : side.limit ≡ limit
  pub met_alone : side.nodes.items ≡ start ∷ []
  pub none_read : side.read ≡ 0
  pub room : nodes ≤ vec_capacity side.nodes

-- The side goes this way from the start, up to the limit. Its nodes are those that it has met, and none is beyond the
-- limit. Paths lead on to them from the start. The links of the rows that it has read lead on only to nodes that it
-- has met or skipped.
pub record IsSide (net : Network) (heights : List ℕ) (first : First) (start limit : ℕ) (met : List Met)
    (side : Side) : Type 0 where
  pub one_each : length met ≡ net.nodes
  pub first_is : side.first ≡ first
  pub limit_is : side.limit ≡ limit
  pub start_is : start_of side ≡ start
  pub begun : 0 < length side.nodes.items
  pub reached : All (HasPathOn first net.links start) side.nodes.items
  pub all_met : All (HasMet first met) side.nodes.items
  pub listed : (x : ℕ) → HasMet first met x → Contains side.nodes.items x
  pub inside : side.read ≤ length side.nodes.items
  pub within : All (λ (x : ℕ). ¬ IsBeyond first limit (slice_index heights x)) side.nodes.items
  pub leads_on : (k w : ℕ) → k < side.read → LeadsOn first net.links (slice_index side.nodes.items k) w
      → IsMetOrAside first side met w (slice_index heights w)
  pub room : HasRoom side met

-- the side has met or skipped each neighbour before this place of the row to which a link leads on
abbrev pub HasPassed : List ℕ → First → Side → List Met → List (ℕ × First) → ℕ → Type 0
HasPassed heights first side met entries place =
    (k : ℕ) (d : ℕ × First) → k < place → (slice_index_or entries k d).1 ≡ first
    → IsMetOrAside first side met (slice_index_or entries k d).0 (slice_index heights (slice_index_or entries k d).0)

-- the side has met x, which no side had met before, in the row that it reads
pub record MeetsNew (before after : Side) (met_before met_after : List Met) (x : ℕ) : Type 0 where
  pub fresh : met_of met_before x ≡ Never
  pub met : met_after ≡ slice_set met_before x (met_by before.first)
  pub same_first : after.first ≡ before.first
  pub same_limit : after.limit ≡ before.limit
  pub same_edge : after.edge ≡ before.edge
  pub nodes : after.nodes.items ≡ before.nodes.items ++ x ∷ []
  pub same_read : after.read ≡ before.read
  pub same_room : vec_capacity after.nodes ≡ vec_capacity before.nodes

-- the side has met any number of nodes that no side had met before
pub record HasMetMore (before after : Side) (met_before met_after : List Met) : Type 0 where
  pub same_first : after.first ≡ before.first
  pub same_limit : after.limit ≡ before.limit
  pub nearer : (height : ℕ) → IsPast before.first before.edge height → IsPast before.first after.edge height
  pub longer : length before.nodes.items ≤ length after.nodes.items
  pub stands : (k : ℕ) → k < length before.nodes.items
      → slice_index after.nodes.items k ≡ slice_index before.nodes.items k
  pub met : (x : ℕ) → (met_of met_after x ≡ met_of met_before x)
      ⊎ ((met_of met_before x ≡ Never) × HasMet before.first met_after x)
  pub one_each : length met_after ≡ length met_before
  pub counted : length after.nodes.items + never_count met_after ≡ length before.nodes.items + never_count met_before

-- how many nodes the side has met whose rows it has not read
abbrev pub unread_count : Side → ℕ
unread_count side = length side.nodes.items - side.read

-- the heights between which the nodes of a finished side can be put, from its limit and its edge
abbrev pub low_of : First → ℕ → ℕ → ℕ
low_of Outward limit edge = edge
low_of Inward limit edge = limit

abbrev pub high_of : First → ℕ → ℕ → ℕ
high_of Outward limit edge = limit
high_of Inward limit edge = edge

abbrev pub answer_of_ended : Side → PathAnswer
answer_of_ended side = Ends side.nodes (low_of side.first side.limit side.edge)
    (high_of side.first side.limit side.edge)

-- a link leads on from a node that this side has met to one that the other side has met
pub record Meets (first : First) (links : List (ℕ × ℕ)) (met : List Met) : Type 0 where
  pub own : ℕ
  pub other : ℕ
  pub own_met : HasMet first met own
  pub other_met : HasMet (opposite first) met other
  pub leads : LeadsOn first links own other

-- what a side returns after it has read a row: whether the sides meet, and if not, it has read the row to its end
abbrev pub IsReadAnswer : List (ℕ × ℕ) → List Met → Side → Side → Bool → Type 0
IsReadAnswer links met before after true = Meets before.first links met
IsReadAnswer links met before after false = after.read ≡ before.read + 1

-- a path leads from `from` to `to`. If none does, nodes and two heights: once the nodes are put between the heights,
-- all links fall, and a link back would fall too
abbrev pub IsPathAnswer : Network → List ℕ → ℕ → ℕ → PathAnswer → Type 0
IsPathAnswer net heights from to Leads = HasPath net.links from to
IsPathAnswer net heights from to (Ends nodes low high) =
    ¬ HasPath net.links from to
    × (All (λ (x : ℕ). x < net.nodes) nodes.items
    × FitBetween (net.links ++ (to, from) ∷ []) heights nodes.items low high)
