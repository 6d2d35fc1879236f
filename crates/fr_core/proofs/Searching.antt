-- Whether some number below n has a property, decided one by one.
use Rattle.std.proofs.Common.{arith, inl, inr, subst, suc, zero, ℕ, ⊎_elim, ◌<◌, ◌≤◌, ◌⊎◌}
use Rattle.std.proofs.lemmas.Bool.{cases_eq, cases_lt}

pub cases_below : (P : ℕ → Type 0) → ((x : ℕ) → P x ⊎ ¬ P x) → (n : ℕ)
    → ((x : ℕ) × (x < n) × P x × ((w : ℕ) → P w → x ≤ w)) ⊎ ((x : ℕ) → x < n → ¬ P x)
cases_below P test zero = inr (λ x l. absurd (omega arith))
cases_below P test (suc n) = go (cases_below P test n) (test n)
  where
    go : ((x : ℕ) × (x < n) × P x × ((w : ℕ) → P w → x ≤ w)) ⊎ ((x : ℕ) → x < n → ¬ P x) → P n ⊎ ¬ P n
        → ((x : ℕ) × (x < suc n) × P x × ((w : ℕ) → P w → x ≤ w)) ⊎ ((x : ℕ) → x < suc n → ¬ P x)
    go (inl (x, l, p, least)) at = inl (x, omega arith, p, least)
    go (inr none) (inl p) = inl (n, omega arith, p, λ w q. ⊎_elim (λ l. absurd (none w l q)) (λ l. l) (cases_lt w n))
    go (inr none) (inr out) =
        inr (λ x l p. ⊎_elim (λ e. out (subst P e p)) (λ ne. none x (omega arith) p) (cases_eq x n))
