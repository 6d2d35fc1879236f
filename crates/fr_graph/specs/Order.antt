-- Links ordered by tail and then by head, the lexicographic order of pairs.
use Rattle.std.specs.Prelude.{◌≡◌, ℕ, ◌<◌, ◌≤◌, ◌+◌, ◌⊎◌, ◌==◌, ◌&&◌, ◌||◌, Bool, nat_lt}
use Rattle.std.specs.Prelude.{nat_le, if◌then◌else◌, List, [], ◌∷◌, length, slice_index_or}

-- p is before q in the order
abbrev pub IsBefore : ℕ × ℕ → ℕ × ℕ → Type 0
IsBefore p q = (p.0 < q.0) ⊎ ((p.0 ≡ q.0) × (p.1 < q.1))

-- each link is before the next one of the list
abbrev pub AreRising : List (ℕ × ℕ) → Type 0
AreRising links = (k : ℕ) (d : ℕ × ℕ) → k + 1 < length links
    → IsBefore (slice_index_or links k d) (slice_index_or links (k + 1) d)

-- p is before q in the order, or equal to it
abbrev pub IsNotAfter : ℕ × ℕ → ℕ × ℕ → Type 0
IsNotAfter p q = (p.0 < q.0) ⊎ ((p.0 ≡ q.0) × (p.1 ≤ q.1))

-- no link comes after the next one of the list in the order
abbrev pub AreInOrder : List (ℕ × ℕ) → Type 0
AreInOrder links = (k : ℕ) (d : ℕ × ℕ) → k + 1 < length links
    → IsNotAfter (slice_index_or links k d) (slice_index_or links (k + 1) d)

-- whether p is before q in the order, or equal to it
abbrev pub is_not_after : ℕ × ℕ → ℕ × ℕ → Bool
is_not_after p q = nat_lt p.0 q.0 || ((p.0 == q.0) && nat_le p.1 q.1)

-- the links with p inserted at its place
abbrev pub with_in_order : ℕ × ℕ → List (ℕ × ℕ) → List (ℕ × ℕ)
with_in_order p [] = p ∷ []
with_in_order p (q ∷ qs) = if is_not_after p q then p ∷ (q ∷ qs) else q ∷ with_in_order p qs

-- the same links in order; there is exactly one such list
abbrev pub in_order : List (ℕ × ℕ) → List (ℕ × ℕ)
in_order [] = []
in_order (l ∷ ls) = with_in_order l (in_order ls)
