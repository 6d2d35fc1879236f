-- Tables of ways.
use Rattle.std.proofs.Common.{Contains, List, [], arith, refl, subst, suc, zero, ℕ, ◌∷◌, ◌≡◌}
use Rattle.std.proofs.lemmas.List.{length-replicate}
use Rattle.fr_tables.proofs.Members.{Contains-none}
use Rattle.fr_ways.specs.Ways.{HasCycle, Sends, ways}
use Rattle.fr_shared.specs.Histories.{blank}
use Rattle.fr_shared.specs.WayTables.{IsTable, way_codec}

-- the table in which no node has a way
pub blank_ways : (n x : ℕ) → ways (blank way_codec n) x ≡ []
blank_ways zero x = refl
blank_ways (suc n) zero = refl
blank_ways (suc n) (suc x) = blank_ways n x

pub blank_sends : (n x y : ℕ) → Sends (blank way_codec n) x y → ⊥
blank_sends n x y sends = Contains-none y (subst (λ (ys : List ℕ). Contains ys y) (blank_ways n x) sends)

blank_cycles : (n : ℕ) (nodes : List ℕ) → HasCycle (blank way_codec n) nodes → ⊥
blank_cycles n [] cycle = cycle
blank_cycles n (x ∷ []) cycle = blank_sends n x x cycle.0
blank_cycles n (x ∷ y ∷ ys) cycle = blank_sends n x y cycle.0

pub blank_is_table : (n : ℕ) → IsTable n (blank way_codec n)
blank_is_table n = record {
  one_each = length-replicate n [];
  in_range = λ x y e. absurd (blank_sends n x y e);
  few = λ x. rw (blank_ways n x) (omega arith);
  cycle_free = blank_cycles n;
}
