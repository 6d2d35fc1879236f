-- The pushes of a phase as pairs. For proofs only.
use Rattle.std.specs.Prelude.{◌≡◌, ℕ, ◌<◌, ◌^◌, List, [], ◌∷◌, length}
use Rattle.fr_ways.specs.declared.plan.Pushes.{Pushes}

-- each node has a list, and the number of nodes fits in 32 bits
pub record AreListed (pushes : Pushes) : Type 0 where
  pub one_each : length pushes.lists ≡ length pushes.nodes.items
  pub few : length pushes.nodes.items < 2 ^ 32

-- each of these nodes with the list at its place
abbrev pub paired : List ℕ → List (List ℕ) → List (ℕ × List ℕ)
paired [] lists = []
paired (x ∷ xs) [] = []
paired (x ∷ xs) (list ∷ lists) = (x, list) ∷ paired xs lists

abbrev pub pairs : Pushes → List (ℕ × List ℕ)
pairs pushes = paired pushes.nodes.items pushes.lists
