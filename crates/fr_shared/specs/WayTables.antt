-- Tables of ways. The word of a node has the number of its ways in its lowest 4 bits, and then 12 bits for each. So a
-- word of 64 bits holds up to five ways to nodes below 4096. This project's own; tables, cycles and phases are those of
-- fr_ways.
use Rattle.std.specs.Prelude.{◌≡◌, ◌<◌, ◌≤◌, ◌⊎◌, ◌+◌, ◌*◌, ◌/◌, ◌%◌, ℕ, zero, suc, List, [], ◌∷◌, ◌++◌, All, Contains}
use Rattle.std.specs.Prelude.{Option, Some, None, length, map, slice_index}
use Rattle.std.specs.List.Sorted.{IsNonDecreasing}
use Rattle.fr_ways.specs.Phases.{growing_nodes, kept, shrinking_nodes}
use Rattle.fr_ways.specs.Ways.{HasNoCycle, IsInRange, Sends, ways}
use Rattle.fr_shared.specs.declared.view.Push.{Push}
use Rattle.fr_shared.specs.Codec.{Codec}
use Rattle.fr_shared.specs.Histories.{push}
use Rattle.fr_shared.specs.Knowledge.{Knowledge, last_table}

-- the ways as the digits of a number with base 4096
abbrev pub digits_of : List ℕ → ℕ
digits_of [] = 0
digits_of (y ∷ ys) = y + 4096 * digits_of ys

abbrev pub word_of : List ℕ → ℕ
word_of ys = length ys + 16 * digits_of ys

-- this many digits of a number
abbrev pub digits_in : ℕ → ℕ → List ℕ
digits_in zero rest = []
digits_in (suc k) rest = (rest % 4096) ∷ digits_in k (rest / 4096)

-- the ways that a word holds
abbrev pub ways_of : ℕ → List ℕ
ways_of word = digits_in (word % 16) (word / 16)

-- these ways fit into a word
pub record Fit (ys : List ℕ) : Type 0 where
  pub few : length ys ≤ 5
  pub low : (k : ℕ) → k < length ys → slice_index ys k < 4096

-- up to five ways for each of n nodes, to nodes of the table, and no cycle
pub record IsTable (n : ℕ) (table : List (List ℕ)) : Type 0 where
  pub one_each : length table ≡ n
  pub in_range : IsInRange table
  pub few : (x : ℕ) → length (ways table x) ≤ 5
  pub cycle_free : HasNoCycle table

-- no node has a way at first
abbrev pub way_codec : Codec (List ℕ)
way_codec = record {
  word_of = word_of;
  item_of = ways_of;
  blank = [];
  most = 4096;
  IsTable = IsTable;
  Sends = Sends;
}

-- what is known of a table of ways, and the table after the last known push
abbrev pub WayKnowledge : Type 0
WayKnowledge = Knowledge (List ℕ)

abbrev pub last_ways : WayKnowledge → List (List ℕ)
last_ways k = last_table way_codec k

-- the pushes of the first phase: each node that loses a way gets those that it keeps
abbrev pub shrinks : List (List ℕ) → List (List ℕ) → List (Push (List ℕ))
shrinks old new = map (λ (x : ℕ). push x (kept old new x)) (shrinking_nodes old new)

-- the pushes of the second phase: each node whose ways still differ gets its new ones
abbrev pub grows : List (List ℕ) → List (List ℕ) → List (Push (List ℕ))
grows old new = map (λ (x : ℕ). push x (ways new x)) (growing_nodes old new)

-- all pushes from one table to another: first the shrinks, then the grows
abbrev pub pushes_of : List (List ℕ) → List (List ℕ) → List (Push (List ℕ))
pushes_of old new = shrinks old new ++ grows old new

-- each node whose ways differ in the two tables is one of these, which are sorted by number. Others may be too
pub record ListsChanges (nodes : List ℕ) (old new : List (List ℕ)) : Type 0 where
  pub by_number : IsNonDecreasing nodes
  pub in_table : All (λ (x : ℕ). x < length new) nodes
  pub others : (x : ℕ) → Contains nodes x ⊎ (ways old x ≡ ways new x)

-- the way that a number chooses
abbrev pub IsChosen : List ℕ → ℕ → Option ℕ → Type 0
IsChosen ys choice None = ys ≡ []
IsChosen ys choice (Some y) = Contains ys y × (y ≡ slice_index ys (choice % length ys))
