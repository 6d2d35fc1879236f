-- How often a router announces the same height.
use Rattle.std.proofs.Common.{Bool, Contains, List, [], ap, arith, eq-eqb, false, inl, inr, nat_lt, not, refl, subst}
use Rattle.std.proofs.Common.{sym, true, ℕ, ⊎_elim, ◌∷◌, ◌+◌, ◌&&◌, ◌||◌, ◌<◌, ◌==◌, ◌≡◌, ◌≢◌, ◌≤◌, ◌⊎◌, ◌∙◌}
use Rattle.std.specs.List.{list_any}
use Rattle.std.proofs.lemmas.Bool.{cases_eq, cases_lt}
use Rattle.std.proofs.lemmas.Bool.Decides.{nat_tests}
use Rattle.std.proofs.lemmas.List.Folds.{Any-from_list_any, list_any_at}
use Rattle.fr_node.specs.Heights.{ActsBeside, FallsBeside, KeepsActing, RisesBeside, SameHeightIsBounded, announces}
use Rattle.fr_node.specs.Heights.{announces_below, hears_low, knows_low, steps_with}
use Rattle.fr_node.specs.Paths.{is_below}
use Rattle.fr_node.specs.Routers.{GoesOn, IsBelow, IsRun, IsStep, Net, Router, last}
use Rattle.fr_node.proofs.Counting.{one, one_facts, one_of_two}
use Rattle.fr_node.proofs.Moments.{Holds, goes_on, held, holds_after, same_height}

false_true : false ≡ true → ⊥
false_true f = cc

-- the test says which heights are below
pub is_below_only : (x e w h : ℕ) → is_below x e w h ≡ true → IsBelow h w e x
is_below_only x e w h y = ⊎_elim
    (λ l. inl l)
    (λ most. inr (grind (arith, nat_tests, y, most), grind (arith, nat_tests, y, most)))
    (cases_lt h e)

pub is_below_test : (x e w h : ℕ) → IsBelow h w e x → is_below x e w h ≡ true
is_below_test x e w h (inl l) = grind (arith, nat_tests, l)
is_below_test x e w h (inr same) = let height = same.0 in let number = same.1 in
    grind (arith, nat_tests, height, number)

any_is : (p : ℕ → Bool) (ws : List ℕ) (w : ℕ) → Contains ws w → p w ≡ true → list_any p ws ≡ true
any_is p ws w at t = list_any_at p ws at.0 w at.1 (rw at.2 t)

any_of : (p : ℕ → Bool) (ws : List ℕ) → list_any p ws ≡ true → (w : ℕ) × Contains ws w × (p w ≡ true)
any_of p ws t = let a = Any-from_list_any p ws t in (a.1, (a.0, a.2, a.3), a.4)

has_low : ((e w h : ℕ) → Bool) → ℕ → List ℕ → Router → Bool
has_low low e ws r = list_any (λ w. knows_low low e w r) ws

-- the router may announce height e without going below it, and without hearing of anything low enough for it
may_return : ((e w h : ℕ) → Bool) → ℕ → List ℕ → Router → Bool
may_return low e ws r = not (r.announced r.number == e) && (nat_lt (r.announced r.number) e || has_low low e ws r)

module _ (low : (e w h : ℕ) → Bool) (e : ℕ) (ws : List ℕ) (r : Router) where
  returns_below : r.announced r.number < e → may_return low e ws r ≡ true
  unfolding may_return
  returns_below l = grind (arith, nat_tests, l)

  returns_low : r.announced r.number ≢ e → has_low low e ws r ≡ true → may_return low e ws r ≡ true
  unfolding may_return
  returns_low other y = grind (arith, nat_tests, other, y)

  returns_not : r.announced r.number ≡ e → may_return low e ws r ≡ false
  unfolding may_return
  returns_not same = rw (eq-eqb (r.announced r.number) e same) refl

  returns_why : may_return low e ws r ≡ true → (r.announced r.number ≢ e)
      × ((r.announced r.number < e) ⊎ (has_low low e ws r ≡ true))
  unfolding may_return
  returns_why t = (
    λ same. false_true (sym (returns_not same) ∙ t),
    ⊎_elim (λ l. inl l) (λ most. inr (one_low most)) (cases_lt (r.announced r.number) e),
  )
    where
      one_low : e ≤ r.announced r.number → has_low low e ws r ≡ true
      one_low most = grind (arith, nat_tests, t, most)

-- One step
module _ (low : (e w h : ℕ) → Bool) (e x : ℕ) (ws : List ℕ) (s t : Net) (holds : Holds s) (step : IsStep s t)
    (boot : (t.router x).boot ≡ (s.router x).boot) where
  goes : GoesOn s.pool x (s.router x) (t.router x)
  goes = goes_on x s t step boot

  low_kept : (w : ℕ) → knows_low low e w (t.router x) ≡ true → (knows_low low e w (s.router x) ≡ true)
      ⊎ ((not ((t.router x).peer w == (s.router x).peer w && (t.router x).heard w == (s.router x).heard w)
      && knows_low low e w (t.router x)) ≡ true)
  low_kept w y = ⊎_elim
      (λ p. ⊎_elim
      (λ h. let same = same_height x w s t holds goes p h (omega (arith, some, h)) in
      inl (grind (arith, nat_tests, y, h, same)))
      (λ other. inr (grind (arith, nat_tests, y, other)))
      (cases_eq ((t.router x).heard w) ((s.router x).heard w)))
      (λ other. inr (grind (arith, nat_tests, y, other)))
      (cases_eq ((t.router x).peer w) ((s.router x).peer w))
    where
      some : 0 < (t.router x).heard w
      some = grind (arith, nat_tests, y)

  low_after : has_low low e ws (t.router x) ≡ true
      → (has_low low e ws (s.router x) ≡ true) ⊎ (hears_low low e ws (s.router x) (t.router x) ≡ true)
  unfolding has_low
  low_after y = let w = any_of (λ v. knows_low low e v (t.router x)) ws y in ⊎_elim
      (λ before. inl (any_is (λ v. knows_low low e v (s.router x)) ws w.0 w.1 before))
      (λ new. inr (any_is (λ v. not ((t.router x).peer v == (s.router x).peer v
      && (t.router x).heard v == (s.router x).heard v) && knows_low low e v (t.router x)) ws w.0 w.1 new))
      (low_kept w.0 w.2)

  Bound : Type 0
  Bound = one (announces e (s.router x) (t.router x)) + one (may_return low e ws (t.router x))
      ≤ one (may_return low e ws (s.router x)) + one (announces_below e (s.router x) (t.router x))
      + one (hears_low low e ws (s.router x) (t.router x))

  -- after a step in which height e is not announced
  by_low : announces e (s.router x) (t.router x) ≡ false
      → (may_return low e ws (t.router x) ≡ true → (may_return low e ws (s.router x) ≡ true)
      ⊎ (hears_low low e ws (s.router x) (t.router x) ≡ true)) → Bound
  unfolding Bound
  by_low silent h = omega (
    arith,
    (one_facts (announces e (s.router x) (t.router x))).1 silent,
    one_of_two (may_return low e ws (t.router x)) (may_return low e ws (s.router x))
        (hears_low low e ws (s.router x) (t.router x)) h,
  )

  -- height e is announced
  by_e : (t.router x).announced (t.router x).number ≡ e → (may_return low e ws (s.router x) ≡ true)
      ⊎ (hears_low low e ws (s.router x) (t.router x) ≡ true) → Bound
  unfolding Bound
  by_e same h = ⊎_elim
      (λ y. omega (
        arith,
        (one_facts (may_return low e ws (s.router x))).2 y,
        (one_facts (may_return low e ws (t.router x))).1 (returns_not low e ws (t.router x) same),
        (one_facts (announces e (s.router x) (t.router x))).0,
      ))
      (λ y. omega (
        arith,
        (one_facts (hears_low low e ws (s.router x) (t.router x))).2 y,
        (one_facts (may_return low e ws (t.router x))).1 (returns_not low e ws (t.router x) same),
        (one_facts (announces e (s.router x) (t.router x))).0,
      ))
      h

  by_below : announces e (s.router x) (t.router x) ≡ false → announces_below e (s.router x) (t.router x) ≡ true → Bound
  unfolding Bound
  by_below silent below = omega (
    arith,
    (one_facts (announces e (s.router x) (t.router x))).1 silent,
    (one_facts (announces_below e (s.router x) (t.router x))).2 below,
    (one_facts (may_return low e ws (t.router x))).0,
  )

  not_e : (t.router x).announced (t.router x).number ≢ e → announces e (s.router x) (t.router x) ≡ false
  not_e other = grind (arith, nat_tests, other)

  announced_below : (t.router x).number ≡ (s.router x).number + 1 → (t.router x).announced (t.router x).number < e
      → announces_below e (s.router x) (t.router x) ≡ true
  announced_below more l = grind (arith, nat_tests, more, l)

  kept : (t.router x).number ≡ (s.router x).number → Bound
  kept n = by_low (grind (arith, nat_tests, n)) (λ y. let why = returns_why low e ws (t.router x) y in ⊎_elim
      (λ l. inl (returns_below low e ws (s.router x) (omega (arith, l, height))))
      (λ y. ⊎_elim
      (λ before. inl (returns_low low e ws (s.router x) (λ same. why.0 (omega (arith, same, height))) before))
      (λ new. inr new) (low_after y))
      why.1)
    where
      height : (t.router x).announced (t.router x).number ≡ (s.router x).announced (s.router x).number
      height = ap (λ (k : ℕ). (t.router x).announced k) n ∙ goes.announced (s.router x).number (omega arith)

  -- after a step from a greater height
  from_above : e < (s.router x).announced (s.router x).number → has_low low e ws (t.router x) ≡ true
      → (may_return low e ws (s.router x) ≡ true) ⊎ (hears_low low e ws (s.router x) (t.router x) ≡ true)
  from_above l y = ⊎_elim
      (λ was. inl (returns_low low e ws (s.router x) (λ same. omega (arith, same, l)) was))
      (λ new. inr new)
      (low_after y)

  -- the router may return to e from a greater height only if a neighbour is low enough
  low_above : e ≤ (t.router x).announced (t.router x).number → may_return low e ws (t.router x) ≡ true
      → has_low low e ws (t.router x) ≡ true
  low_above most y = ⊎_elim
      (λ l. absurd (omega (arith, l, most)))
      (λ one. one)
      (returns_why low e ws (t.router x) y).1

  rises : RisesBeside low ws (s.router x) (t.router x) → Bound
  unfolding has_low
  rises r = ⊎_elim
      (λ same. by_e same (inl (returns_below low e ws (s.router x) (omega (arith, same, r.greater)))))
      (λ other. ⊎_elim
      (λ l. by_below (not_e other) (announced_below r.number l))
      (λ most. by_low (not_e other) (λ y. above (low_above most y)))
      (cases_lt ((t.router x).announced (t.router x).number) e))
      (cases_eq ((t.router x).announced (t.router x).number) e)
    where
      none : (s.router x).announced (s.router x).number ≡ e → has_low low e ws (t.router x) ≡ true → ⊥
      none same y = let w = any_of (λ v. knows_low low e v (t.router x)) ws y in
          false_true (sym (subst (λ (v : ℕ). knows_low low v w.0 (t.router x) ≡ false) same (r.none_low w.0 w.1))
          ∙ w.2)

      above : has_low low e ws (t.router x) ≡ true
          → (may_return low e ws (s.router x) ≡ true) ⊎ (hears_low low e ws (s.router x) (t.router x) ≡ true)
      above y = ⊎_elim
          (λ l. inl (returns_below low e ws (s.router x) l))
          (λ most. ⊎_elim
          (λ same. absurd (none same y))
          (λ other. from_above (omega (arith, most, other)) y)
          (cases_eq ((s.router x).announced (s.router x).number) e))
          (cases_lt ((s.router x).announced (s.router x).number) e)

  falls : FallsBeside low ws (s.router x) (t.router x) → Bound
  unfolding has_low
  falls f = ⊎_elim
      (λ same. by_e same (from_above (omega (arith, same, f.lower)) (beside same)))
      (λ other. ⊎_elim
      (λ l. by_below (not_e other) (announced_below f.number l))
      (λ most. by_low (not_e other) (λ y. from_above (omega (arith, most, f.lower)) (low_above most y)))
      (cases_lt ((t.router x).announced (t.router x).number) e))
      (cases_eq ((t.router x).announced (t.router x).number) e)
    where
      beside : (t.router x).announced (t.router x).number ≡ e → has_low low e ws (t.router x) ≡ true
      beside same = subst (λ (v : ℕ). has_low low v ws (t.router x) ≡ true) same (any_is
          (λ v. knows_low low ((t.router x).announced (t.router x).number) v (t.router x)) ws f.one_low.0 f.one_low.1
          f.one_low.2)

  step_bound : ActsBeside low ws (s.router x) (t.router x) → Bound
  step_bound h = ⊎_elim kept (⊎_elim rises falls) h

  bound_is : Bound → one (announces e (s.router x) (t.router x)) + one (may_return low e ws (t.router x))
      ≤ one (may_return low e ws (s.router x)) + one (announces_below e (s.router x) (t.router x))
      + one (hears_low low e ws (s.router x) (t.router x))
  unfolding Bound
  bound_is b = b

module _ (low : (e w h : ℕ) → Bool) (e x : ℕ) (ws : List ℕ) where
  run_bound : (s : Net) (ts : List Net) → Holds s → IsRun s ts → KeepsActing low x ws s ts
      → steps_with (announces e) x s ts ≤ one (may_return low e ws (s.router x))
      + steps_with (announces_below e) x s ts + steps_with (hears_low low e ws) x s ts
  unfolding one
  run_bound s [] holds run keeps = omega arith
  run_bound s (t ∷ ts) holds run keeps = add
      (bound_is low e x ws s t holds run.0 keeps.0 (step_bound low e x ws s t holds run.0 keeps.0 keeps.1))
      (run_bound t ts (holds_after s (t ∷ []) holds (run.0, tt)) run.1 keeps.2)
    where
      add : one (announces e (s.router x) (t.router x)) + one (may_return low e ws (t.router x))
          ≤ one (may_return low e ws (s.router x)) + one (announces_below e (s.router x) (t.router x))
          + one (hears_low low e ws (s.router x) (t.router x))
          → steps_with (announces e) x t ts ≤ one (may_return low e ws (t.router x))
          + steps_with (announces_below e) x t ts + steps_with (hears_low low e ws) x t ts
          → steps_with (announces e) x s (t ∷ ts) ≤ one (may_return low e ws (s.router x))
          + steps_with (announces_below e) x s (t ∷ ts) + steps_with (hears_low low e ws) x s (t ∷ ts)
      add a b = omega (arith, a, b)

  pub height_bound : (s : Net) (ts : List Net) → Holds s → IsRun s ts → KeepsActing low x ws s ts
      → steps_with (announces e) x s ts ≤ 1 + steps_with (announces_below e) x s ts
      + steps_with (hears_low low e ws) x s ts
  height_bound s ts holds run keeps = omega (
    arith,
    run_bound s ts holds run keeps,
    (one_facts (may_return low e ws (s.router x))).0,
  )

pub same_height_is_bounded : SameHeightIsBounded
same_height_is_bounded s past future x e low ws begins ran runs keeps = height_bound low e x ws (last s past) future
    (held s past begins ran) runs keeps
