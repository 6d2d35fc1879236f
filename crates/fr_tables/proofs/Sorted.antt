-- Lists with the same elements that are sorted by an asymmetric relation are equal.
use Rattle.std.proofs.Common.{Contains, List, [], ap, arith, get_or, length, refl, subst, suc, sym, ℕ, ⊎_elim, ◌<◌}
use Rattle.std.proofs.Common.{◌∙◌, ◌∷◌, ◌≡◌}
use Rattle.std.proofs.lemmas.List.{get_or_default}
use Rattle.fr_tables.proofs.Members.{Contains-cases, Contains-head, Contains-none, Contains-tail}

pub IsSorted : (ℕ → ℕ → Type 0) → List ℕ → Type 0
IsSorted R [] = Unit {0}
IsSorted R (x ∷ xs) = ((y : ℕ) → Contains xs y → R x y) × IsSorted R xs

pub sorted_from : (R : ℕ → ℕ → Type 0) (xs : List ℕ)
    → ((i j : ℕ) → i < j → j < length xs → R (get_or xs i 0) (get_or xs j 0)) → IsSorted R xs
unfolding IsSorted
sorted_from R [] at = tt
sorted_from R (x ∷ xs) at = (
  λ y (k, low, is). subst (R x) (get_or_default xs k 0 y low ∙ is) (at 0 (suc k) (omega arith) (omega arith)),
  sorted_from R xs (λ i j lt low. at (suc i) (suc j) (omega arith) (omega arith)),
)

pub sorted_unique : (R : ℕ → ℕ → Type 0) → ((x y : ℕ) → R x y → ¬ R y x) → (xs ys : List ℕ) → IsSorted R xs
    → IsSorted R ys
    → ((z : ℕ) → Contains xs z → Contains ys z) → ((z : ℕ) → Contains ys z → Contains xs z) → xs ≡ ys
unfolding IsSorted
sorted_unique R one [] [] s t to from = refl
sorted_unique R one [] (y ∷ ys) s t to from = absurd (Contains-none y (from y (Contains-head y ys)))
sorted_unique R one (x ∷ xs) [] s t to from = absurd (Contains-none x (to x (Contains-head x xs)))
sorted_unique R one (x ∷ xs) (y ∷ ys) s t to from =
    let same : x ≡ y = ⊎_elim (λ e. sym e)
    (λ in_ys. ⊎_elim (λ e. e) (λ in_xs. absurd (one x y (s.0 y in_xs) (t.0 x in_ys)))
    (Contains-cases y x xs (from y (Contains-head y ys))))
    (Contains-cases x y ys (to x (Contains-head x xs))) in
    let tails : xs ≡ ys = sorted_unique R one xs ys s.1 t.1
    (λ z in_xs. ⊎_elim (λ e. absurd (let r : R x z = s.0 z in_xs in let q : R x x = subst (R x) (sym (same ∙ e)) r in
    one x x q q)) (λ h. h) (Contains-cases z y ys (to z (Contains-tail z x xs in_xs))))
    (λ z in_ys. ⊎_elim (λ e. absurd
    (let r : R y z = t.0 z in_ys in let q : R y y = subst (R y) (sym (sym same ∙ e)) r in
    one y y q q)) (λ h. h) (Contains-cases z x xs (from z (Contains-tail z y ys in_ys)))) in
    ap (λ (w : ℕ). w ∷ xs) same ∙ ap (λ (ws : List ℕ). y ∷ ws) tails
