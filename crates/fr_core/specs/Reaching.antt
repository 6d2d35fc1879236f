-- How a search reaches nodes and puts them in its queue. A node is not reached while its count is n. For proofs only.
use Rattle.std.specs.Prelude.{◌≡◌, ℕ, ◌+◌, ◌<◌, ◌≤◌, ◌==◌, ◌⊎◌, List, length, slice_index}
use Rattle.std.specs.List.{count_by, Contains}
use Rattle.fr_graph.specs.declared.first.First.{First}

-- how many nodes are not reached
abbrev pub unreached_count : ℕ → List ℕ → ℕ
unreached_count n counts = count_by (λ (k : ℕ). k == n) counts

-- x is in the queue
abbrev pub IsQueued : List ℕ → ℕ → Type 0
IsQueued queue x = (i : ℕ) × (i < length queue) × (slice_index queue i ≡ x)

-- From the counts c and the queue q to the counts d and the queue r, some nodes were reached, all with the property P:
-- each has the count `level` now and is at the end of the queue. Everything else is unchanged.
pub record ReachesOnly (n : ℕ) (P : ℕ → Type 0) (level : ℕ) (c q d r : List ℕ) : Type 0 where
  pub longer : length q ≤ length r
  pub kept : (i : ℕ) → i < length q → slice_index r i ≡ slice_index q i
  pub added : (i : ℕ) → length q ≤ i → i < length r
      → P (slice_index r i) × (slice_index d (slice_index r i) ≡ level) × (level < n)
  pub same : (x : ℕ) → ¬ (slice_index c x ≡ n) → slice_index d x ≡ slice_index c x
  pub rest : (x : ℕ) → slice_index c x ≡ n → (slice_index d x ≡ n) ⊎ IsQueued r x
  pub balance : length r + unreached_count n d ≡ length q + unreached_count n c

-- x is the neighbour of an entry of the row whose link first points in the wanted direction
abbrev pub IsNeighbour : List (ℕ × First) → First → ℕ → Type 0
IsNeighbour row wanted x = Contains row (x, wanted)

-- the neighbour of the entry is reached, if its link first points in the wanted direction
abbrev pub IsReached : ℕ → List ℕ → First → ℕ × First → Type 0
IsReached n counts wanted entry = entry.1 ≡ wanted → ¬ (slice_index counts entry.0 ≡ n)
