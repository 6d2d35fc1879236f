-- The state of the search for all distances. For proofs only.
use Rattle.std.specs.Prelude.{◌≡◌, ◌≢◌, ℕ, ◌<◌, ◌≤◌, ◌+◌, ◌==◌, List, length, slice_index, slice_index_or}
use Rattle.std.specs.List.{Contains, count_by}
use Rattle.fr_graph.specs.Links.{Points}
use Rattle.fr_graph.specs.Network.{Network}
use Rattle.fr_graph.specs.declared.first.First.{First}
use Rattle.fr_graph.specs.declared.first.First.TheVariants.{Inward}
use Rattle.fr_nearest.specs.Distances.{no_distance}

-- how many nodes have no distance yet
abbrev pub none_count : List ℕ → ℕ
none_count table = count_by (λ number. number == no_distance) table

-- The list has the nodes that the search has reached, in order of their distances. The rows of those before the place
-- `read` have been read, and no reached node is more than one link farther than the one at that place.
pub record IsSearch (net : Network) (d : ℕ) (table list : List ℕ) (read : ℕ) : Type 0 where
  pub one_each : length table ≡ net.nodes
  pub node : d < net.nodes
  pub home : slice_index table d ≡ 0
  pub inside : read ≤ length list
  pub below : (k : ℕ) → k < length list → slice_index list k < net.nodes
  pub short : (k : ℕ) → k < length list → slice_index table (slice_index list k) ≤ k
  pub listed : (x : ℕ) → x < net.nodes → slice_index table x ≢ no_distance → Contains list x
  pub from : (x : ℕ) → x < net.nodes → slice_index table x ≢ no_distance → ¬ (x ≡ d)
      → (w : ℕ) × Points net.links x w × (slice_index table x ≡ slice_index table w + 1)
  pub rising : (i j : ℕ) → i ≤ j → j < length list
      → slice_index table (slice_index list i) ≤ slice_index table (slice_index list j)
  pub level : (k : ℕ) → k < length list → read < length list
      → slice_index table (slice_index list k) ≤ slice_index table (slice_index list read) + 1
  pub done : (k y : ℕ) → k < read → Points net.links y (slice_index list k)
      → slice_index table y ≤ slice_index table (slice_index list k) + 1
  pub room : length list + none_count table ≤ net.nodes

-- the neighbours before this place of a row that have a link to its node x are at most one link farther than x
abbrev pub HasReached : List ℕ → ℕ → List (ℕ × First) → ℕ → Type 0
HasReached table x row place = (k : ℕ) (e : ℕ × First) → k < place → (slice_index_or row k e).1 ≡ Inward
    → slice_index table (slice_index_or row k e).0 ≤ slice_index table x + 1

-- the search while it reads the row of x, at the place `read`, up to another place of this row. Before it read this row,
-- there were these numbers and this list
pub record IsReading (net : Network) (before first : List ℕ) (x read : ℕ) (row : List (ℕ × First)) (place : ℕ)
    (table list : List ℕ) : Type 0 where
  pub one_each : length table ≡ length before
  pub left : read < length list
  pub here : slice_index list read ≡ x
  pub same : slice_index table x ≡ slice_index before x
  pub search : (d : ℕ) → IsSearch net d before first read → IsSearch net d table list read
  pub reached : HasReached table x row place
