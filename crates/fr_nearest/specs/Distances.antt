-- Distances down to a destination: the fewest links that lead there, as a breadth-first search finds them (E. F. Moore,
-- "The shortest path through a maze", 1959). Tables of distances are this project's own.
use Rattle.std.specs.Prelude.{◌≡◌, ◌≢◌, ℕ, ◌<◌, ◌≤◌, ◌==◌, ◌↔◌, if◌then◌else◌, List, length, slice_index, Option, Some, None}
use Rattle.std.specs.List.{Contains}
use Rattle.fr_graph.specs.Links.{HasPath, IsPath, end_of}
use Rattle.fr_graph.specs.Network.{Network}

-- a path of k links leads from x to d, and no path is shorter
pub record IsDistance (links : List (ℕ × ℕ)) (d x k : ℕ) : Type 0 where
  pub nodes : List ℕ
  pub path : IsPath links x nodes
  pub leads : end_of x nodes ≡ d
  pub long : length nodes ≡ k
  pub least : (others : List ℕ) → IsPath links x others → end_of x others ≡ d → k ≤ length others

-- the number that a table has for a node without a distance
abbrev pub no_distance : ℕ
no_distance = 65535

-- the distance that a number of a table stands for
abbrev pub distance_of : ℕ → Option ℕ
distance_of number = if number == no_distance then None else Some number

-- the number stands for the distance of x from d. It stands for none exactly if no path leads from x to d
pub record IsMeasured (links : List (ℕ × ℕ)) (d x number : ℕ) : Type 0 where
  pub some : number ≢ no_distance → IsDistance links d x number
  pub none : number ≡ no_distance → ¬ HasPath links x d

-- the table has the distance of each of n nodes from d
pub record AreDistances (n : ℕ) (links : List (ℕ × ℕ)) (d : ℕ) (table : List ℕ) : Type 0 where
  pub one_each : length table ≡ n
  pub each : (x : ℕ) → x < n → IsMeasured links d x (slice_index table x)

-- the value of a `Distances` in contracts: the destination, the table, the table before the last update, and the nodes
-- at which the two tables differ
pub record Measured : Type 0 where
  pub dest : ℕ
  pub table : List ℕ
  pub before : List ℕ
  pub changed : List ℕ

-- the table has the distances in this network
abbrev pub IsMeasureOf : Network → Measured → Type 0
IsMeasureOf net m = AreDistances net.nodes net.links m.dest m.table

-- exactly the nodes at which the tables differ, each once
pub record AreChanged (before table changed : List ℕ) : Type 0 where
  pub one_each : length before ≡ length table
  pub once : (i j : ℕ) → i < j → j < length changed → slice_index changed i ≢ slice_index changed j
  pub just : (x : ℕ) → Contains changed x ↔ ((x < length table) × (slice_index table x ≢ slice_index before x))

-- the table has the distances in the network now, and the table before is the one that was there
pub record IsRenewed (net : Network) (d : ℕ) (old new : Measured) : Type 0 where
  pub dest : new.dest ≡ d
  pub table : AreDistances net.nodes net.links d new.table
  pub before : new.before ≡ old.table
  pub changed : AreChanged new.before new.table new.changed
