-- A node with a path has a distance.
use Rattle.std.proofs.Common.{[], List, arith, inl, inr, length, refl, subst, suc, sym, zero, ℕ, ⊎_elim, ap}
use Rattle.std.proofs.Common.{Contains, ◌<◌, ◌∷◌, ◌≡◌, ◌⊎◌}
use Rattle.std.proofs.lemmas.Bool.{cases_eq, cases_lt}
use Rattle.fr_tables.proofs.Members.{Contains-cases, Contains-head, Contains-none, Contains-tail}
use Rattle.fr_graph.specs.Links.{HasPath, IsPath, end_of}
use Rattle.fr_nearest.specs.Distances.{IsDistance}

module _ (links : List (ℕ × ℕ)) (d : ℕ) where
  -- a path of exactly k links leads from x to d
  abbrev pub HasPathOf : ℕ → ℕ → Type 0
  HasPathOf x k = (vs : List ℕ) × IsPath links x vs × (end_of x vs ≡ d) × (length vs ≡ k)

  -- one of these links leads from x to a node with a path of k links
  abbrev StepsOn : List (ℕ × ℕ) → ℕ → ℕ → Type 0
  StepsOn some x k = (w : ℕ) × Contains some (x, w) × HasPathOf w k

  steps_on : (x k : ℕ) → ((w : ℕ) → HasPathOf w k ⊎ ¬ HasPathOf w k) → (some : List (ℕ × ℕ))
      → StepsOn some x k ⊎ ¬ StepsOn some x k
  steps_on x k decide [] = inr (λ (w, has, path). Contains-none (x, w) has)
  steps_on x k decide (l ∷ ls) = elim (steps_on x k decide ls) [
    | inl (w, has, path) ↦ inl (w, Contains-tail (x, w) l ls has, path)
    | inr none ↦ elim (cases_eq l.0 x) [
      | inl e ↦ elim (decide l.1) [
        | inl path ↦ inl (l.1, subst (λ (z : ℕ). Contains (l ∷ ls) (z, l.1)) e (Contains-head l ls), path)
        | inr not ↦ inr (λ (w, has, path). ⊎_elim
            (λ same. not (subst (λ (z : ℕ). HasPathOf z k) (sym (ap (λ (p : ℕ × ℕ). p.1) same)) path))
            (λ in_ls. none (w, in_ls, path)) (Contains-cases (x, w) l ls has))
      ]
      | inr apart ↦ inr (λ (w, has, path). ⊎_elim
          (λ same. apart (ap (λ (p : ℕ × ℕ). p.0) same))
          (λ in_ls. none (w, in_ls, path)) (Contains-cases (x, w) l ls has))
    ]
  ]

  cases_path_of : (k x : ℕ) → HasPathOf x k ⊎ ¬ HasPathOf x k
  cases_path_of zero x = ⊎_elim (λ e. inl ([], tt, e, refl)) (λ apart. inr (none apart)) (cases_eq x d)
    where
      none : ¬ (x ≡ d) → ¬ HasPathOf x zero
      none apart ([], path, ends, long) = apart ends
      none apart (w ∷ ws, path, ends, long) = omega (arith, long)
  cases_path_of (suc k) x = ⊎_elim (λ h. inl (longer h)) (λ out. inr (shorter out))
      (steps_on x k (λ w. cases_path_of k w) links)
    where
      longer : StepsOn links x k → HasPathOf x (suc k)
      longer (w, has, (vs, path, ends, long)) = (w ∷ vs, (has, path), ends, omega (arith, long))

      shorter : ¬ StepsOn links x k → ¬ HasPathOf x (suc k)
      shorter out ([], path, ends, long) = omega (arith, long)
      shorter out (w ∷ ws, path, ends, long) = out (w, path.0, (ws, path.1, ends, omega (arith, long)))

  -- the least number of links below b, if there is one
  abbrev IsLeastOf : ℕ → ℕ → Type 0
  IsLeastOf x k = HasPathOf x k × ((j : ℕ) → j < k → ¬ HasPathOf x j)

  least_below : (x b : ℕ) → ((k : ℕ) × IsLeastOf x k) ⊎ ((j : ℕ) → j < b → ¬ HasPathOf x j)
  least_below x zero = inr (λ j low. absurd (omega (arith, low)))
  least_below x (suc b) = elim (least_below x b) [
    | inl found ↦ inl found
    | inr none ↦ elim (cases_path_of b x) [
      | inl path ↦ inl (b, (path, none))
      | inr out ↦ inr (λ j low path. elim (cases_eq j b) [
        | inl e ↦ out (subst (HasPathOf x) e path)
        | inr apart ↦ none j (omega (arith, low, apart)) path
      ])
    ]
  ]

  from_least : (x k : ℕ) → IsLeastOf x k → IsDistance links d x k
  from_least x k ((vs, path, ends, long), none) = record {
    nodes = vs;
    path = path;
    leads = ends;
    long = long;
    least = λ others goes leads. ⊎_elim (λ low. absurd (none (length others) low (others, goes, leads, refl)))
        (λ high. omega (arith, high)) (cases_lt (length others) k);
  }

  pub distance_exists : (x : ℕ) → HasPath links x d → (k : ℕ) × IsDistance links d x k
  distance_exists x (vs, (path, ends)) = elim (least_below x (suc (length vs))) [
    | inl (k, least) ↦ (k, from_least x k least)
    | inr none ↦ absurd (none (length vs) (omega arith) (vs, path, ends, refl))
  ]
