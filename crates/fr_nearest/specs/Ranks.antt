-- How the ways of a node are listed and sorted, and how its nearest way is found. For proofs only.
use Rattle.std.specs.Prelude.{◌≡◌, ◌≢◌, ℕ, ◌<◌, ◌≤◌, ◌+◌, ◌*◌, ◌%◌, ◌^◌, ◌⊎◌, ◌↔◌, List, Option, Some, None}
use Rattle.std.specs.Prelude.{length, map, nat_eq, slice_index, slice_index_or, take}
use Rattle.std.specs.List.{Contains, IsDistinct}
use Rattle.std.specs.List.Sorted.{IsNonDecreasingBy, IsPermutation}
use Rattle.fr_graph.specs.Links.{Points}
use Rattle.fr_graph.specs.declared.first.First.{First}
use Rattle.fr_graph.specs.declared.first.First.TheVariants.{Inward, Outward}
use Rattle.fr_nearest.specs.Distances.{no_distance}

-- the key by which ways are sorted
abbrev pub rank_of : List ℕ → ℕ → ℕ
rank_of table w = slice_index table w * 2 ^ 16 + w

-- the node with this rank
abbrev pub number_of : ℕ → ℕ
number_of rank = rank % 2 ^ 16

-- exactly the nodes that have a distance and to which a link of x points, each once
pub record AreListed (links : List (ℕ × ℕ)) (table : List ℕ) (x : ℕ) (list : List ℕ) : Type 0 where
  pub just : (w : ℕ) → Contains list w ↔ (Points links x w × (slice_index table w ≢ no_distance))
  pub once : IsDistinct nat_eq list

-- the link of this entry points away from the node of the row
abbrev pub IsOut : ℕ × First → Type 0
IsOut entry = entry.1 ≡ Outward

-- a link that a node sees so pointed away from it before a round in which the node and its neighbour turned so often
abbrev pub PointedAway : First → ℕ → ℕ → Type 0
PointedAway Outward own other = own ≡ other
PointedAway Inward own other = own ≢ other

-- the same for an entry of the row of x
abbrev pub WasOut : List ℕ → ℕ → ℕ × First → Type 0
WasOut counts x entry = PointedAway entry.1 (slice_index counts x) (slice_index counts entry.0)

-- the links of x point to exactly the nodes of these entries of its row
abbrev pub AreOut : (ℕ × First → Type 0) → List (ℕ × First) → List (ℕ × ℕ) → ℕ → Type 0
AreOut Out row links x = (w : ℕ) → Points links x w ↔ ((f : First) × Contains row (w, f) × Out (w, f))

-- exactly the nodes of such entries before this place of the row that have a distance, each once
pub record AreListedTo (Out : ℕ × First → Type 0) (table : List ℕ) (row : List (ℕ × First)) (place : ℕ) (list : List ℕ)
    : Type 0 where
  pub just : (w : ℕ) → Contains list w
      ↔ (((f : First) × Contains (take place row) (w, f) × Out (w, f)) × (slice_index table w ≢ no_distance))
  pub once : (i j : ℕ) → i < j → j < length list → slice_index list i ≢ slice_index list j

-- the ranks of exactly these nodes, and of those before this place of the row
abbrev pub AreRanked : List (ℕ × ℕ) → List ℕ → ℕ → List ℕ → Type 0
AreRanked links table x ranks = (list : List ℕ) × AreListed links table x list × (ranks ≡ map (rank_of table) list)

abbrev pub AreRankedTo : (ℕ × First → Type 0) → List ℕ → List (ℕ × First) → ℕ → List ℕ → Type 0
AreRankedTo Out table row place ranks =
    (list : List ℕ) × AreListedTo Out table row place list × (ranks ≡ map (rank_of table) list)

-- the first ranks have been sorted and replaced by the numbers of their nodes
pub record AreSortedTo (count : ℕ) (ranks after : List ℕ) : Type 0 where
  pub sorted : List ℕ
  pub same : IsPermutation (take count ranks) sorted
  pub rises : IsNonDecreasingBy (λ (r : ℕ). r) sorted
  pub numbers : take count after ≡ map number_of sorted
  pub long : length after ≡ length ranks

-- w is the nearest of the nodes to which the links before this place of a row point
pub record IsBest (table : List ℕ) (row : List (ℕ × First)) (place w : ℕ) : Type 0 where
  pub listed : Contains (take place row) (w, Outward)
  pub some : slice_index table w ≢ no_distance
  pub best : (k : ℕ) (e : ℕ × First) → k < place → (slice_index_or row k e).1 ≡ Outward
      → (slice_index table w < slice_index table (slice_index_or row k e).0)
      ⊎ ((slice_index table w ≡ slice_index table (slice_index_or row k e).0) × (w ≤ (slice_index_or row k e).0))

-- the nearest of these nodes, if one has a distance, and its number
abbrev pub IsBestSo : List ℕ → List (ℕ × First) → ℕ → ℕ → Option ℕ → Type 0
IsBestSo table row place least None = (least ≡ no_distance)
    × ((k : ℕ) (e : ℕ × First) → k < place → (slice_index_or row k e).1 ≡ Outward
    → slice_index table (slice_index_or row k e).0 ≡ no_distance)
IsBestSo table row place least (Some w) = (least ≡ slice_index table w) × IsBest table row place w
