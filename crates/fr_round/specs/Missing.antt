-- How many neighbours of a node miss their bounds, according to the seen counts. This project's own.
use Rattle.std.specs.Prelude.{◌≡◌, ℕ, ◌<◌, Bool, nat_lt, List, length, slice_index, count_by}
use Rattle.fr_graph.specs.Rows.{row}
use Rattle.fr_graph.specs.declared.first.First.{First}
use Rattle.fr_core.specs.Machine.{bound_of}
use Rattle.fr_round.specs.declared.seen_counts.Seen.{Seen}

-- whether the seen count of a neighbour misses its bound for the count c
abbrev pub misses : List ℕ → ℕ → ℕ × First → Bool
misses counts c entry = nat_lt (slice_index counts entry.0) (bound_of entry.1 c)

-- how many neighbours of x miss their bounds for the seen count of x
abbrev pub missing_of : ℕ → List (ℕ × ℕ) → List ℕ → ℕ → ℕ
missing_of n links counts x = count_by (misses counts (slice_index counts x)) (row n links x)

-- for the fields of a worker: one seen count and one number for each node, and each number is the right one
pub record IsCounted (n : ℕ) (links : List (ℕ × ℕ)) (seen : Seen) : Type 0 where
  pub one_each : length seen.counts.items ≡ n
  pub as_many : length seen.missing.items ≡ n
  pub right : (x : ℕ) → x < n → slice_index seen.missing.items x ≡ missing_of n links seen.counts.items x
