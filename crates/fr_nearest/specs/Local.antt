-- When the number of a node agrees with those of the nodes to which its links point. If all do, they are the distances.
-- For proofs only.
use Rattle.std.specs.Prelude.{◌≡◌, ◌≢◌, ℕ, ◌≤◌, ◌+◌, ◌⊎◌, min, List, slice_index}
use Rattle.fr_graph.specs.Links.{Points}
use Rattle.fr_nearest.specs.Distances.{no_distance}

-- the number of a node whose nearest way has this number
abbrev pub one_farther : ℕ → ℕ
one_farther number = min (number + 1) no_distance

-- the number of x by those of the nodes to which its links point
pub record IsByLinks (links : List (ℕ × ℕ)) (d : ℕ) (table : List ℕ) (x number : ℕ) : Type 0 where
  pub home : x ≡ d → number ≡ 0
  pub near : ¬ (x ≡ d) → (w : ℕ) → Points links x w → number ≤ one_farther (slice_index table w)
  pub from : ¬ (x ≡ d) → number ≢ no_distance → (w : ℕ) × Points links x w × (number ≡ slice_index table w + 1)

-- x has this number in the table
abbrev pub Agrees : List (ℕ × ℕ) → ℕ → List ℕ → ℕ → Type 0
Agrees links d table x = IsByLinks links d table x (slice_index table x)

-- no number stands for a distance greater than n
abbrev pub IsSmall : ℕ → List ℕ → Type 0
IsSmall n table = (x : ℕ) → (slice_index table x ≡ no_distance) ⊎ (slice_index table x ≤ n)
