-- Lists for nodes, in memory that is reserved beforehand. For proofs only.
use Rattle.std.specs.Prelude.{◌≡◌, ℕ, ◌<◌, ◌≤◌, ◌-◌, List, [], ◌∷◌, length, map}
use Rattle.std.specs.List.{concat}

-- nodes, each with its list. There is room for so many nodes, with so many ways in total
pub record Held : Type 0 where
  pub pairs : List (ℕ × List ℕ)
  pub nodes : ℕ
  pub ways : ℕ

-- all these lists, one after another
abbrev pub all_ways : List (ℕ × List ℕ) → List ℕ
all_ways pairs = concat (map (λ p. p.1) pairs)

-- each of these nodes with the list at its place
abbrev pub paired : List ℕ → List (List ℕ) → List (ℕ × List ℕ)
paired [] lists = []
paired (x ∷ xs) [] = []
paired (x ∷ xs) (list ∷ lists) = (x, list) ∷ paired xs lists

-- there is room for one more node with this list
pub record HasPlace (list : List ℕ) (held : Held) : Type 0 where
  pub nodes : length held.pairs < held.nodes
  pub ways : length list ≤ held.ways - length (all_ways held.pairs)

-- there is as much room as before
pub record HoldsAsMuch (before after : Held) : Type 0 where
  pub nodes : after.nodes ≡ before.nodes
  pub ways : after.ways ≡ before.ways

-- the lists are the same, and the room is no less
pub record KeepsLists (before after : Held) : Type 0 where
  pub pairs : after.pairs ≡ before.pairs
  pub nodes : before.nodes ≤ after.nodes
  pub ways : before.ways ≤ after.ways
