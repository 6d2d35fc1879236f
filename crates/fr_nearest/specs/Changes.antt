-- The record of what an update has changed. For proofs only.
use Rattle.std.specs.Prelude.{◌≡◌, ◌≢◌, ℕ, ◌<◌, ◌≤◌, ◌+◌, ◌↔◌, Bool, List, [], false, true, length}
use Rattle.std.specs.Prelude.{slice_index, slice_index_or, vec_capacity}
use Rattle.std.specs.List.{Contains}
use Rattle.fr_nearest.specs.declared.distance_changes.DistanceChanges.{DistanceChanges}

-- whether a node is noted
abbrev pub IsNoted : DistanceChanges → ℕ → Type 0
IsNoted changes x = slice_index_or changes.noted.items x false ≡ true

-- the noted nodes are those in the list, each is there once, and its number has changed
pub record AreNoted (table : List ℕ) (changes : DistanceChanges) : Type 0 where
  pub before : length changes.before.items ≡ length table
  pub noted : length changes.noted.items ≡ length table
  pub room : length table ≤ vec_capacity changes.nodes
  pub same : (x : ℕ) → IsNoted changes x ↔ Contains changes.nodes.items x
  pub just : (x : ℕ) → Contains changes.nodes.items x
      → (x < length table) × (slice_index table x ≢ slice_index changes.before.items x)
  pub once : (i j : ℕ) → i < j → j < length changes.nodes.items
      → slice_index changes.nodes.items i ≢ slice_index changes.nodes.items j

-- all nodes whose number has changed are noted
pub record AreAllNoted (table : List ℕ) (changes : DistanceChanges) : Type 0 where
  pub noted : AreNoted table changes
  pub all : (x : ℕ) → x < length table → slice_index table x ≢ slice_index changes.before.items x
      → Contains changes.nodes.items x

-- these nodes have the number of the table before, and are not noted. The others are unchanged
pub record IsTakenOver (table nodes before : List ℕ) (noted : List Bool) (after : List ℕ) (more : List Bool)
    : Type 0 where
  pub before_each : length after ≡ length table
  pub noted_each : length more ≡ length table
  pub these : (x : ℕ) → Contains nodes x
      → (slice_index after x ≡ slice_index table x) × (slice_index_or more x false ≡ false)
  pub others : (x : ℕ) → ¬ Contains nodes x
      → (slice_index after x ≡ slice_index before x) × (slice_index_or more x false ≡ slice_index_or noted x false)

-- no node is noted, and the numbers before are those of the table
pub record IsForgotten (table : List ℕ) (changes : DistanceChanges) : Type 0 where
  pub before : changes.before.items ≡ table
  pub noted : length changes.noted.items ≡ length table
  pub room : length table ≤ vec_capacity changes.nodes
  pub none : (x : ℕ) → ¬ IsNoted changes x
  pub empty : changes.nodes.items ≡ []

-- x is noted if its number has changed, and the other nodes are noted as before
pub record NotesOne (table : List ℕ) (x : ℕ) (before after : DistanceChanges) : Type 0 where
  pub same_before : after.before ≡ before.before
  pub room : vec_capacity after.nodes ≡ vec_capacity before.nodes
  pub keeps : (y : ℕ) → Contains before.nodes.items y → Contains after.nodes.items y
  pub here : slice_index table x ≢ slice_index before.before.items x → Contains after.nodes.items x
  pub length_at_most : length after.nodes.items ≤ length before.nodes.items + 1
  pub noted : AreNoted table before → AreNoted table after
