-- What holds of a list of hops after one of them is written.
use Rattle.std.proofs.Common.{List, Some, ap, arith, get_or, length, length-set, set, slice_get, subst, sym, ℕ, ⊎_elim}
use Rattle.std.proofs.Common.{◌<◌, ◌∙◌, ◌≡◌}
use Rattle.std.proofs.lemmas.Bool.{cases_eq}
use Rattle.std.proofs.lemmas.List.{get_or-set_other, get_or-set_same}
use Rattle.std.proofs.lemmas.Option.{get_or_from_slice_get, slice_get-get_or, slice_get_within}

module _ {X : Type 0} (P : ℕ → X → Type 0) (xs : List X) (i : ℕ) (x : X) (here : P i x) (others : (j : ℕ) (y : X)
    → ¬ (j ≡ i) → slice_get xs j ≡ Some y → P j y) where
  -- what holds of the written element, and of all others before, holds of each
  pub written : (j : ℕ) (y : X) → slice_get (set xs i x) j ≡ Some y → P j y
  written j y at =
      let low : j < length xs = omega (arith, slice_get_within (set xs i x) j y at, length-set xs i x) in
      let is : get_or (set xs i x) j y ≡ y = get_or_from_slice_get (set xs i x) j y y at in
      ⊎_elim
      (λ e.
      let same : y ≡ x =
      sym is ∙ (ap (λ (k : ℕ). get_or (set xs i x) k y) e
      ∙ get_or-set_same xs i x y (subst (λ (k : ℕ). k < length xs) e low)) in
      subst (λ (k : ℕ). P k y) (sym e) (subst (P i) (sym same) here))
      (λ apart. others j y apart (slice_get-get_or xs j y low ∙ ap Some (sym (get_or-set_other xs i j x y apart) ∙ is)))
      (cases_eq j i)
