-- What the count of one node can be. For proofs only.
use Rattle.std.specs.Prelude.{◌≡◌, ℕ, ◌≤◌, ◌⊎◌, List, slice_index}
use Rattle.fr_graph.specs.Links.{IsAlone}

-- k is 0 if x has no link, otherwise n
abbrev pub IsMostCount : ℕ → List (ℕ × ℕ) → ℕ → ℕ → Type 0
IsMostCount n first x k = (IsAlone first x × (k ≡ 0)) ⊎ (¬ IsAlone first x × (k ≡ n))

-- the count of x is at most n, and 0 if x has no link
abbrev pub IsLawfulCount : ℕ → List (ℕ × ℕ) → List ℕ → ℕ → Type 0
IsLawfulCount n first counts x = (slice_index counts x ≤ n) × (IsAlone first x → slice_index counts x ≡ 0)
