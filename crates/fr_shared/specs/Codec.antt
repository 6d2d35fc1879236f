-- How a word holds what a node of a table has, and which tables have no loop. This project's own.
use Rattle.std.specs.Prelude.{◌≡◌, ℕ, ◌≤◌, List, length, replicate, slice_get, Some}

pub record Codec (A : Type 0) : Type 1 where
  -- the word of an item, and the item that a word holds
  pub word_of : A → ℕ
  pub item_of : ℕ → A
  -- what each node has at first
  pub blank : A
  -- the greatest number of nodes of a table
  pub most : ℕ
  -- an item for each of n nodes, and no loop
  pub IsTable : ℕ → List A → Type 0
  -- a node of a table sends on to another one
  pub Sends : List A → ℕ → ℕ → Type 0

-- what a codec has to keep
pub record IsSound {A : Type 0} (c : Codec A) : Type 0 where
  pub one_each : (n : ℕ) (table : List A) → c.IsTable n table → length table ≡ n
  pub first : (n : ℕ) → c.IsTable n (replicate n c.blank)
  pub again : (n : ℕ) (table : List A) (x : ℕ) (a : A) → n ≤ c.most → c.IsTable n table → slice_get table x ≡ Some a
      → c.item_of (c.word_of a) ≡ a
