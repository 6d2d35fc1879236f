-- The steps of an update of distances. For proofs only.
use Rattle.std.specs.Prelude.{◌≡◌, ◌≢◌, ℕ, ◌<◌, ◌≤◌, ◌+◌, ◌++◌, ◌⊎◌, List, drop, length, slice_index, slice_index_or}
use Rattle.std.specs.Prelude.{slice_set}
use Rattle.std.specs.List.{All, Contains}
use Rattle.fr_graph.specs.Links.{Points}
use Rattle.fr_graph.specs.Network.{Network}
use Rattle.fr_graph.specs.declared.edit.Edit.{Edit}
use Rattle.fr_graph.specs.declared.first.First.{First}
use Rattle.fr_graph.specs.declared.first.First.TheVariants.{Inward, Outward}
use Rattle.fr_nearest.specs.Distances.{AreDistances, no_distance}
use Rattle.fr_nearest.specs.Local.{Agrees, IsSmall, one_farther}
use Rattle.fr_nearest.specs.LinkChanges.{Adds, Cuts}
use Rattle.fr_nearest.specs.declared.update.Event.{Event}
use Rattle.fr_nearest.specs.declared.update.Event.TheVariants.{Gained, Lost}

-- a node with this number still agrees after one of its ways has got the number `new` in place of `old`: the way is
-- still nearer if it was, and the node is at most one farther
pub record IsUnaffected (own old new : ℕ) : Type 0 where
  pub nearer : old < own → new < own
  pub near : own ≤ one_farther new

-- the same after the node has lost or gained a way with this number
abbrev pub IsUnaffectedBy : Event → ℕ → ℕ → Type 0
IsUnaffectedBy Lost own way = IsUnaffected own way no_distance
IsUnaffectedBy Gained own way = IsUnaffected own no_distance way

-- the listed nodes are those of the network, and there are no more of them than nodes
pub record IsListed (n : ℕ) (list : List ℕ) : Type 0 where
  pub below : All (λ (x : ℕ). x < n) list
  pub few : length list ≤ n

-- each node agrees, unless it is in the list, at the place `read` or after it
pub record IsPending (net : Network) (d : ℕ) (table list : List ℕ) (read : ℕ) : Type 0 where
  pub one_each : length table ≡ net.nodes
  pub small : IsSmall net.nodes table
  pub listed : IsListed net.nodes list
  pub agrees : (x : ℕ) → x < net.nodes → Agrees net.links d table x ⊎ Contains (drop read list) x

-- only listed nodes have another number than before
abbrev pub KeepsOthers : List ℕ → List ℕ → List ℕ → Type 0
KeepsOthers before table list = (x : ℕ) → ¬ Contains list x → slice_index table x ≡ slice_index before x

-- the table has the distances, and only listed nodes have another number than before
pub record IsUpdated (net : Network) (d : ℕ) (before table list : List ℕ) : Type 0 where
  pub distances : AreDistances net.nodes net.links d table
  pub small : IsSmall net.nodes table
  pub listed : IsListed net.nodes list
  pub others : KeepsOthers before table list

-- the same holds of the entries before this place of a row
abbrev pub HoldTo : List (ℕ × First) → ℕ → (ℕ × First → Type 0) → Type 0
HoldTo entries place P = (k : ℕ) (e : ℕ × First) → k < place → P (slice_index_or entries k e)

-- x is appended, unless its number agrees after one of its ways has got the number `new` in place of `old`
pub record ListsOne (n : ℕ) (table : List ℕ) (x old new : ℕ) (list more : List ℕ) : Type 0 where
  pub added : List ℕ
  pub all : more ≡ list ++ added
  pub listed : IsListed n more
  pub affected : Contains added x ⊎ IsUnaffected (slice_index table x) old new

-- x is listed, or it agrees after it has lost or gained the way w
abbrev pub IsSeen : Event → List ℕ → List ℕ → ℕ → ℕ → Type 0
IsSeen event table added x w = Contains added x ⊎ IsUnaffectedBy event (slice_index table x) (slice_index table w)

-- The list has grown by the nodes that may have lost or gained a way, if that can make their number wrong.
pub record Lists (n : ℕ) (table : List ℕ) (event : Event) (May : ℕ → ℕ → Type 0) (list more : List ℕ) : Type 0 where
  pub added : List ℕ
  pub all : more ≡ list ++ added
  pub listed : IsListed n more
  pub seen : (x w : ℕ) → May x w → IsSeen event table added x w

-- by this edit x loses or gains the way w, if the link between them points to w
abbrev pub Touches : Event → Edit → ℕ → ℕ → Type 0
Touches Lost edit = Cuts edit
Touches Gained edit = Adds edit

-- the same by one of these edits
abbrev pub IsTouched : Event → List Edit → ℕ → ℕ → Type 0
IsTouched event edits x w = (e : Edit) × Contains edits e × Touches event e x w

-- the direction in which a node that has turned sees the link to a neighbour that has lost or gained it as a way
abbrev pub direction_of : Event → First
direction_of Lost = Outward
direction_of Gained = Inward

-- y has lost or gained the way w if the link between them has been reversed
abbrev pub MayHave : Event → List (ℕ × ℕ) → ℕ → ℕ → Type 0
MayHave Lost links y w = Points links w y
MayHave Gained links y w = Points links y w

-- the same, and w is this node
abbrev pub IsReversed : Event → List (ℕ × ℕ) → ℕ → ℕ → ℕ → Type 0
IsReversed event links x y w = (w ≡ x) × MayHave event links y w

-- the same, and w has turned
abbrev pub IsReversedAt : Event → List (ℕ × ℕ) → List ℕ → ℕ → ℕ → Type 0
IsReversedAt event links turned y w = Contains turned w × MayHave event links y w

-- the list after these nodes have turned
pub record ListsTurned (net : Network) (table : List ℕ) (event : Event) (turned list more : List ℕ) : Type 0 where
  pub lists : Lists net.nodes table event (IsReversedAt event net.links turned) list more
  pub here : (x : ℕ) → Contains turned x → Contains lists.added x

-- the neighbour of this entry of the row of x is listed, or it agrees whichever way the link to x pointed before
abbrev pub IsNear : Event → List ℕ → ℕ → List ℕ → ℕ × First → Type 0
IsNear event table x added entry = entry.1 ≡ direction_of event → IsSeen event table added entry.0 x

-- x is appended, and the neighbours of the entries of its row before this place that do not agree
pub record ListsRow (n : ℕ) (table : List ℕ) (event : Event) (x : ℕ) (entries : List (ℕ × First)) (place : ℕ)
    (list more : List ℕ) : Type 0 where
  pub added : List ℕ
  pub all : more ≡ list ++ added
  pub short : length more ≤ length list + 1 + place
  pub below : All (λ (y : ℕ). y < n) more
  pub here : Contains added x
  pub near : HoldTo entries place (IsNear event table x added)

-- `least` is the least number of the nodes to which the links before this place of a row point
pub record IsLeast (table : List ℕ) (row : List (ℕ × First)) (place least : ℕ) : Type 0 where
  pub near : HoldTo row place (λ e. e.1 ≡ Outward → least ≤ slice_index table e.0)
  pub from : least ≢ no_distance → (w : ℕ) × Contains row (w, Outward) × (least ≡ slice_index table w)

-- the least number of the nodes to which links of x point, or one of these that is less than `enough`
pub record IsLeastWay (links : List (ℕ × ℕ)) (table : List ℕ) (x enough least : ℕ) : Type 0 where
  pub near : enough ≤ least → (w : ℕ) → Points links x w → least ≤ slice_index table w
  pub from : least ≢ no_distance → (w : ℕ) × Points links x w × (least ≡ slice_index table w)

-- the neighbour of this entry of the row of x is listed if x may affect it
abbrev pub IsListedIfAffected : List ℕ → ℕ → ℕ → List ℕ → ℕ × First → Type 0
IsListedIfAffected table old new added entry =
    entry.1 ≡ Inward → Contains added entry.0 ⊎ IsUnaffected (slice_index table entry.0) old new

-- the list has grown by the neighbours that x may affect, of those before this place of its row
pub record ListsSome (table : List ℕ) (old new : ℕ) (row : List (ℕ × First)) (place : ℕ) (list more : List ℕ)
    : Type 0 where
  pub added : List ℕ
  pub all : more ≡ list ++ added
  pub passed : HoldTo row place (IsListedIfAffected table old new added)

-- all nodes that x may affect are listed, after those that were in the list
pub record ListsAffected (net : Network) (x old : ℕ) (table list more : List ℕ) : Type 0 where
  pub added : List ℕ
  pub all : more ≡ list ++ added
  pub listed : IsListed net.nodes more
  pub affected : (y : ℕ) → Points net.links y x
      → Contains added y ⊎ IsUnaffected (slice_index table y) old (slice_index table x)

-- x has got this number, and all nodes that it may affect are listed
pub record SetsOne (net : Network) (x number : ℕ) (table list after more : List ℕ) : Type 0 where
  pub set : after ≡ slice_set table x number
  pub small : (number ≡ no_distance) ⊎ (number ≤ net.nodes)
  pub lists : ListsAffected net x (slice_index table x) after list more

-- x has a nearer way, unless it is the destination or has no number
abbrev pub HasNearer : List (ℕ × ℕ) → ℕ → List ℕ → ℕ → Type 0
HasNearer links d table x = ¬ (x ≡ d) → slice_index table x ≢ no_distance
    → (w : ℕ) × Points links x w × (slice_index table w < slice_index table x)

-- x is at most one farther than w
abbrev pub IsWithin : List ℕ → ℕ → ℕ → Type 0
IsWithin table x w = slice_index table x ≤ one_farther (slice_index table w)

-- Numbers are raised only. Each node has a nearer way, unless it is in the list, at the place `read` or after it. Nodes
-- that were at most one farther than a way still are.
pub record IsRaising (net : Network) (d : ℕ) (before table list : List ℕ) (read : ℕ) : Type 0 where
  pub one_each : length table ≡ net.nodes
  pub small : IsSmall net.nodes table
  pub listed : IsListed net.nodes list
  pub others : KeepsOthers before table list
  pub home : slice_index table d ≡ slice_index before d
  pub within : (x w : ℕ) → Points net.links x w → IsWithin before x w → IsWithin table x w
  pub nearer : (x : ℕ) → x < net.nodes → HasNearer net.links d table x ⊎ Contains (drop read list) x

-- x has a nearer way now. Only its number has changed, and each node that has lost its nearer way by that is listed
pub record RaisesOne (net : Network) (d x : ℕ) (table list after more : List ℕ) : Type 0 where
  pub added : List ℕ
  pub all : more ≡ list ++ added
  pub listed : IsListed net.nodes more
  pub small : IsSmall net.nodes after
  pub others : (y : ℕ) → ¬ (y ≡ x) → slice_index after y ≡ slice_index table y
  pub home : slice_index after d ≡ slice_index table d
  pub within : (y w : ℕ) → Points net.links y w → IsWithin table y w → IsWithin after y w
  pub here : HasNearer net.links d after x
  pub nearer : (y : ℕ) → HasNearer net.links d table y → HasNearer net.links d after y ⊎ Contains added y

-- x agrees now. Only its number has changed, and each node that does not agree for that is listed
pub record UpdatesOne (net : Network) (d x : ℕ) (table list after more : List ℕ) : Type 0 where
  pub added : List ℕ
  pub all : more ≡ list ++ added
  pub listed : IsListed net.nodes more
  pub small : IsSmall net.nodes after
  pub others : (y : ℕ) → ¬ (y ≡ x) → slice_index after y ≡ slice_index table y
  pub here : Agrees net.links d after x
  pub agrees : (y : ℕ) → Agrees net.links d table y → Agrees net.links d after y ⊎ Contains added y
