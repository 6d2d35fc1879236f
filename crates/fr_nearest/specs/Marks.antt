-- How the nodes are listed whose ways a change may have altered. For proofs only.
use Rattle.std.specs.Prelude.{◌≡◌, ◌≢◌, ℕ, ◌<◌, ◌≤◌, ◌⊎◌, ◌↔◌, Bool, List, false, length, nat_eq, slice_index}
use Rattle.std.specs.Prelude.{slice_index_or, true, vec_capacity}
use Rattle.std.specs.List.{Contains, IsDistinct}
use Rattle.fr_graph.specs.Links.{Points}
use Rattle.fr_graph.specs.declared.first.First.{First}
use Rattle.fr_graph.specs.declared.first.First.TheVariants.{Inward, Outward}
use Rattle.fr_nearest.specs.Affected.{Affecting}
use Rattle.fr_nearest.specs.Distances.{Measured, no_distance}
use Rattle.fr_nearest.specs.declared.affected.Affected.TheInside.{Inside}
use Rattle.fr_nearest.specs.declared.affected.Marks.{Marks}

-- whether a node is marked
abbrev pub IsMarked : Marks → ℕ → Type 0
IsMarked marks x = slice_index_or marks.marked.items x false ≡ true

-- the marked nodes are those in the list, each is there once, and there is room for all that can be marked
pub record AreMarks (marks : Marks) : Type 0 where
  pub room : length marks.marked.items ≤ vec_capacity marks.nodes
  pub same : (x : ℕ) → IsMarked marks x ↔ Contains marks.nodes.items x
  pub below : (x : ℕ) → Contains marks.nodes.items x → x < length marks.marked.items
  pub once : IsDistinct nat_eq marks.nodes.items

-- nodes have been marked: those that must be, and none but those that may be
pub record HasMarked (Must May : ℕ → Type 0) (before after : Marks) : Type 0 where
  pub are : AreMarks after
  pub long : length after.marked.items ≡ length before.marked.items
  pub stay : (y : ℕ) → Contains before.nodes.items y → Contains after.nodes.items y
  pub all : (y : ℕ) → Must y → Contains after.nodes.items y
  pub just : (y : ℕ) → Contains after.nodes.items y → Contains before.nodes.items y ⊎ May y

-- the value of an `Affected` in contracts
abbrev pub affected_in : Inside → Affecting
affected_in s = record { nodes = s.marks.nodes.items; room = length s.marks.marked.items }

-- its marks are those of the list
abbrev pub IsListing : Inside → Type 0
IsListing s = AreMarks s.marks

-- these nodes are not marked, and the others are as before
pub record IsUnmarked (nodes : List ℕ) (before after : List Bool) : Type 0 where
  pub long : length after ≡ length before
  pub these : (x : ℕ) → Contains nodes x → slice_index_or after x false ≡ false
  pub others : (x : ℕ) → ¬ Contains nodes x → slice_index_or after x false ≡ slice_index_or before x false

-- both tables have a number for each of n nodes
abbrev pub HasOneEach : ℕ → Measured → Type 0
HasOneEach n m = (length m.table ≡ n) × (length m.before ≡ n)

-- w comes before u in the ways, by the numbers of the table
abbrev pub ComesFirst : List ℕ → ℕ → ℕ → Type 0
ComesFirst table w u =
    (slice_index table w < slice_index table u) ⊎ ((slice_index table w ≡ slice_index table u) × (w < u))

-- the links of x point to nodes that are in the same order in both tables, and the same of them have a distance
pub record IsOrderedAlike (links : List (ℕ × ℕ)) (before table : List ℕ) (x : ℕ) : Type 0 where
  pub some : (w : ℕ) → Points links x w
      → (slice_index before w ≢ no_distance) ↔ (slice_index table w ≢ no_distance)
  pub order : (w u : ℕ) → Points links x w → Points links x u → ComesFirst before w u ↔ ComesFirst table w u

-- a link of y points to w
abbrev pub IsBehind : List (ℕ × ℕ) → ℕ → ℕ → Type 0
IsBehind links w y = Points links y w

-- y is the neighbour of this entry of a row
abbrev pub IsNeighbour : ℕ × First → ℕ → Type 0
IsNeighbour entry y = y ≡ entry.0

-- the same, and its link points to the node of the row
abbrev pub IsInward : ℕ × First → ℕ → Type 0
IsInward entry y = (entry.1 ≡ Inward) × (y ≡ entry.0)

-- w has a distance in both tables or in neither, and is in the same order with each node to which a link of x points
pub record StaysInOrder (links : List (ℕ × ℕ)) (before table : List ℕ) (x w : ℕ) : Type 0 where
  pub some : (slice_index before w ≢ no_distance) ↔ (slice_index table w ≢ no_distance)
  pub order : (u : ℕ) → Points links x u → ComesFirst before w u ↔ ComesFirst table w u

-- a link of y points to w, and w does not stay in its order
abbrev pub IsReordered : List (ℕ × ℕ) → List ℕ → List ℕ → ℕ → ℕ → Type 0
IsReordered links before table w y = Points links y w × ¬ StaysInOrder links before table y w

-- y is x, and w does not stay in its order there
abbrev pub IsMoved : List (ℕ × ℕ) → List ℕ → List ℕ → ℕ → ℕ → ℕ → Type 0
IsMoved links before table x w y = (y ≡ x) × ¬ StaysInOrder links before table y w

-- the same for the neighbour of this entry of the row of w, if its link points to w
abbrev pub IsReorderedAt : List (ℕ × ℕ) → List ℕ → List ℕ → ℕ → ℕ × First → ℕ → Type 0
IsReorderedAt links before table w entry y = (entry.1 ≡ Inward) × IsMoved links before table entry.0 w y

-- w is in the same order with the neighbour of this entry, if the link points to it
abbrev pub IsAlikeAt : List ℕ → List ℕ → ℕ → ℕ × First → Type 0
IsAlikeAt before table w entry = entry.1 ≡ Outward → ComesFirst before w entry.0 ↔ ComesFirst table w entry.0
