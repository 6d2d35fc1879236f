-- Routers that stay below a ceiling, or at one height above, come to rest. Announcements are ordered by height, and
-- those of equal heights by the number of their router. From one place in this order to the next their number at most
-- doubles.
use Rattle.std.proofs.Common.{Bool, Contains, List, [], add-one, arith, false, inl, inr, not, refl, subst, suc, true}
use Rattle.std.proofs.Common.{zero, ℕ, ⊎_elim}
use Rattle.std.proofs.Common.{◌∷◌, ◌&&◌, ◌*◌, ◌+◌, ◌<◌, ◌==◌, ◌^◌, ◌≡◌, ◌≢◌, ◌≤◌, ◌⊎◌}
use Rattle.std.proofs.Math.Nat.{mul-le-mul_right, pow-suc}
use Rattle.std.proofs.lemmas.Bool.{cases_Bool, cases_lt, or_cases}
use Rattle.std.proofs.lemmas.Bool.Decides.{nat_tests}
use Rattle.std.proofs.lemmas.Nat.{pow-add}
use Rattle.fr_node.specs.declared.policy.Rise.TheVariants.{Full, Top}
use Rattle.fr_node.specs.Heights.{announces, announces_below, hears_low, knows_low, steps_with}
use Rattle.fr_node.specs.Paths.{times}
use Rattle.fr_node.specs.Rests.{AnnouncementsEnd, KeepsBelow, LeadsDown, StaysBelow, TestsLeadDown}
use Rattle.fr_node.specs.Rests.{times_of_all, unheard_beside}
use Rattle.fr_node.specs.Routers.{IsRun, Net, Router, last}
use Rattle.fr_node.proofs.Counting.{one, one_facts, one_most, one_of_two}
use Rattle.fr_node.proofs.Heights.{height_bound, is_below_only, is_below_test}
use Rattle.fr_node.proofs.Lows.{GoesSlowly, announced_on, announces_low, goes_slowly, hears_bound, hears_new}
use Rattle.fr_node.proofs.Members.{Contains-cases, Contains-head, Contains-tail}
use Rattle.fr_node.proofs.Moments.{Holds, held}
use Rattle.fr_node.proofs.Sums.{below, below_but_one, below_most, below_none, over, over_below}

-- Steps with one of two tests

steps_two : (p q r : Router → Router → Bool)
    → ((a b : Router) → p a b ≡ true → (q a b ≡ true) ⊎ (r a b ≡ true)) → (x : ℕ) (s : Net) (ts : List Net)
    → steps_with p x s ts ≤ steps_with q x s ts + steps_with r x s ts
unfolding one
steps_two p q r each x s [] = omega arith
steps_two p q r each x s (t ∷ ts) = omega (
  arith,
  one_of_two (p (s.router x) (t.router x)) (q (s.router x) (t.router x)) (r (s.router x) (t.router x))
      (each (s.router x) (t.router x)),
  steps_two p q r each x t ts,
)

steps_none : (p : Router → Router → Bool) → ((a b : Router) → p a b ≡ false) → (x : ℕ) (s : Net) (ts : List Net)
    → steps_with p x s ts ≡ 0
unfolding one
steps_none p each x s [] = refl
steps_none p each x s (t ∷ ts) = omega (
  arith,
  (one_facts (p (s.router x) (t.router x))).1 (each (s.router x) (t.router x)),
  steps_none p each x t ts,
)

steps_most : (p q : Router → Router → Bool) → ((a b : Router) → p a b ≡ true → q a b ≡ true) → (x : ℕ) (s : Net)
    → (ts : List Net) → steps_with p x s ts ≤ steps_with q x s ts
steps_most p q each x s ts = omega (
  arith,
  steps_two p q (λ _ _. false) (λ a b t. inl (each a b t)) x s ts,
  steps_none (λ _ _. false) (λ _ _. refl) x s ts,
)

pub tests_lead_down : TestsLeadDown
tests_lead_down Full x cost least e w h y = is_below_only x e w h y
tests_lead_down (Top ceiling) x cost least e w h y = let costs = least w in inl (grind (arith, nat_tests, y, costs))

-- Announcements by rank: by height, and of equal heights by the number of their router

none_lower : (w : ℕ) (r t : Router) → announces_low 0 0 w r t ≡ false
none_lower w r t = ⊎_elim (λ y. absurd (never y)) (λ f. f) (cases_Bool (announces_low 0 0 w r t))
  where
    never : announces_low 0 0 w r t ≡ true → ⊥
    never y = grind (arith, nat_tests, y)

lower_others : (e x w : ℕ) → w ≢ x → (r t : Router) → announces_low e (x + 1) w r t ≡ true
    → announces_low e x w r t ≡ true
lower_others e x w other r t y = grind (arith, nat_tests, y, other)

lower_itself : (e x : ℕ) (r t : Router) → announces_low e (x + 1) x r t ≡ true
    → (announces_low e x x r t ≡ true) ⊎ (announces e r t ≡ true)
lower_itself e x r t y = ⊎_elim
    (λ l. inl (grind (arith, nat_tests, y, l)))
    (λ most. inr (grind (arith, nat_tests, y, most)))
    (cases_lt (t.announced t.number) e)

lower_next : (e n w : ℕ) → w < n → (r t : Router) → announces_low (e + 1) 0 w r t ≡ true
    → announces_low e n w r t ≡ true
lower_next e n w within r t y = ⊎_elim
    (λ l. grind (arith, nat_tests, y, l))
    (λ most. grind (arith, nat_tests, y, most, within))
    (cases_lt (t.announced t.number) e)

below_itself : (e x : ℕ) (r t : Router) → announces_below e r t ≡ true → announces_low e x x r t ≡ true
below_itself e x r t y = grind (arith, nat_tests, y)

-- a router hears what one of its neighbours has announced, and what is low enough for height e is below it
module _ (e x : ℕ) (low : (e w h : ℕ) → Bool) (down : LeadsDown x low) where
  abbrev hears_one : ℕ → Router → Router → Bool
  hears_one w r t = not (t.peer w == r.peer w && t.heard w == r.heard w) && knows_low low e w t

  hears_below : (w : ℕ) (r t : Router) → hears_one w r t ≡ true → hears_new e x w r t ≡ true
  hears_below w r t y = let below = λ (l : low e w (t.seen w) ≡ true). is_below_test x e w (t.seen w)
      (down e w (t.seen w) l) in
      grind (arith, nat_tests, y, below)

  hears_each : (ws : List ℕ) (s : Net) (ts : List Net)
      → steps_with (hears_low low e ws) x s ts ≤ over (λ w. steps_with (hears_new e x w) x s ts) ws
  unfolding over
  hears_each [] s ts = omega (arith, steps_none (hears_low low e []) (λ _ _. refl) x s ts)
  hears_each (w ∷ ws) s ts = omega (
    arith,
    steps_two (hears_low low e (w ∷ ws)) (hears_new e x w) (hears_low low e ws) first_or_rest x s ts,
    hears_each ws s ts,
  )
    where
      first_or_rest : (r t : Router) → hears_low low e (w ∷ ws) r t ≡ true
          → (hears_new e x w r t ≡ true) ⊎ (hears_low low e ws r t ≡ true)
      first_or_rest r t y = ⊎_elim
          (λ first. inl (hears_below w r t first))
          (λ rest. inr rest)
          (or_cases (hears_one w r t) (hears_low low e ws r t) y)

module _ (ceiling top routers most : ℕ) (above : ceiling ≤ top) (low : (x e w h : ℕ) → Bool) (beside : ℕ → List ℕ)
    (s : Net) (ts : List Net) (holds : Holds s) (run : IsRun s ts)
    (keeps : (x : ℕ) → x < routers → KeepsBelow ceiling top routers most x (low x) (beside x) s ts) where
  -- the announcements of w below router x at height e
  of_one : (e x w : ℕ) → ℕ
  of_one e x w = steps_with (announces_low e x w) w s ts

  lower : (e x : ℕ) → ℕ
  lower e x = below (of_one e x) routers

  slow : (x : ℕ) → x < routers → GoesSlowly x s ts
  slow x within = goes_slowly (low x) x (beside x) s ts (keeps x within).links

  heard_beside : (e x : ℕ) → x < routers → (ws : List ℕ) → ((w : ℕ) → Contains ws w → w < routers)
      → over (λ w. steps_with (hears_new e x w) x s ts) ws ≤ unheard_beside s x ws + over (of_one e x) ws
  unfolding over of_one
  heard_beside e x itself [] within = omega arith
  heard_beside e x itself (w ∷ ws) within = omega (
    arith,
    hears_bound e x w s ts holds run (slow x itself) (slow w (within w (Contains-head w ws))),
    heard_beside e x itself ws (λ v h. within v (Contains-tail v w ws h)),
  )

  -- a router announces a height at most once more than there is news and announcements below it
  height_again : (e x : ℕ) → x < routers → steps_with (announces e) x s ts ≤ 1 + most + lower e x
  unfolding over of_one lower
  height_again e x within = omega (
    arith,
    height_bound (low x) e x (beside x) s ts holds run k.links,
    steps_most (announces_below e) (announces_low e x x) (below_itself e x) x s ts,
    hears_each e x (low x) k.down (beside x) s ts,
    heard_beside e x within (beside x) k.neighbours,
    k.unheard,
    over_below (x ∷ beside x) (of_one e x) routers k.once (λ w h. ⊎_elim
        (λ e. omega (arith, e, within))
        (λ there. k.neighbours w there)
        (Contains-cases w x (beside x) h)),
  )
    where
      k : KeepsBelow ceiling top routers most x (low x) (beside x) s ts
      k = keeps x within

  next_router : (e x : ℕ) → x < routers → lower e (x + 1) + (1 + most) ≤ (lower e x + (1 + most)) * 2
  unfolding of_one lower
  next_router e x within = omega (
    arith,
    below_but_one (of_one e (x + 1)) (of_one e x) x (steps_with (announces e) x s ts)
        (λ w other. steps_most (announces_low e (x + 1) w) (announces_low e x w) (lower_others e x w other) w s ts)
        (steps_two (announces_low e (x + 1) x) (announces_low e x x) (announces e) (lower_itself e x) x s ts) routers,
    height_again e x within,
  )

  next_height : (e : ℕ) → lower (e + 1) 0 ≤ lower e routers
  unfolding of_one lower
  next_height e = below_most (of_one (e + 1) 0) (of_one e routers) routers (λ w within. steps_most
      (announces_low (e + 1) 0 w) (announces_low e routers w) (lower_next e routers w within) w s ts)

  at_height : (e x : ℕ) → x ≤ routers → lower e x + (1 + most) ≤ (lower e 0 + (1 + most)) * 2 ^ x
  at_height e zero within = omega arith
  at_height e (suc x) within = rw (pow-suc 2 x) (omega (
    arith,
    subst (λ (y : ℕ). lower e y + (1 + most) ≤ (lower e x + (1 + most)) * 2) (add-one x)
        (next_router e x (omega (arith, within))),
    at_height e x (omega (arith, within)),
    mul_assoc (lower e 0 + (1 + most)) (2 ^ x),
  ))
    where
      mul_assoc : (a b : ℕ) → a * (b * 2) ≡ a * b * 2
      mul_assoc a b = grind arith

  first : lower 0 0 ≡ 0
  unfolding of_one lower
  first = below_none (of_one 0 0) (λ w. steps_none (announces_low 0 0 w) (none_lower w) w s ts) routers

  step_up : (e c : ℕ) → lower e 0 + (1 + most) ≤ (1 + most) * 2 ^ (c * routers)
      → lower (e + 1) 0 + (1 + most) ≤ (1 + most) * 2 ^ ((c + 1) * routers)
  step_up e c before = rw (more c routers) (rw (pow-add 2 (c * routers) routers) (omega (
    arith,
    next_height e,
    at_height e routers (omega arith),
    mul-le-mul_right (2 ^ routers) before,
    assoc (1 + most) (2 ^ (c * routers)) (2 ^ routers),
  )))
    where
      more : (a b : ℕ) → (a + 1) * b ≡ a * b + b
      more a b = grind arith

      assoc : (a b c : ℕ) → a * b * c ≡ a * (b * c)
      assoc a b c = grind arith

  below_height : (e : ℕ) → lower e 0 + (1 + most) ≤ (1 + most) * 2 ^ (e * routers)
  below_height zero = rw (zero_mul routers) (omega (arith, first))
    where
      zero_mul : (n : ℕ) → 0 * n ≡ 0
      zero_mul n = grind arith
  below_height (suc e) = subst (λ (i : ℕ). lower i 0 + (1 + most) ≤ (1 + most) * 2 ^ (i * routers)) (add-one e)
      (step_up e e (below_height e))

  -- no height between the ceiling and top is announced
  none_between : (x : ℕ) (r : Net) (rs : List Net) → StaysBelow ceiling top x rs
      → steps_with (announces_low top 0 x) x r rs ≤ steps_with (announces_low ceiling 0 x) x r rs
  unfolding one
  none_between x r [] stays = omega arith
  none_between x r (t ∷ rs) stays = omega (
    arith,
    one_most (announces_low top 0 x (r.router x) (t.router x)) (announces_low ceiling 0 x (r.router x) (t.router x))
        (λ y. ⊎_elim
        (λ l. grind (arith, nat_tests, y, l))
        (λ same. grind (arith, nat_tests, y, same))
        stays.0),
    none_between x t rs stays.1,
  )

  below_top : lower top 0 + (1 + most) ≤ (1 + most) * 2 ^ (ceiling * routers)
  unfolding of_one lower
  below_top = omega (
    arith,
    below_most (of_one top 0) (of_one ceiling 0) routers
        (λ x within. none_between x s ts (keeps x within).below),
    below_height ceiling,
  )

  all_below : (x : ℕ) (r : Net) (rs : List Net) → IsRun r rs → GoesSlowly x r rs
      → StaysBelow ceiling top x rs → times r (last r rs) x ≤ steps_with (announces_low (top + 1) 0 x) x r rs
  unfolding one
  all_below x r [] ran slowly stays = omega arith
  all_below x r (t ∷ rs) ran slowly stays = omega (
    arith,
    (announced_on x t rs ran.1 slowly.2).0,
    all_below x t rs ran.1 slowly.2 stays.1,
    step,
  )
    where
      step : (t.router x).number
          ≤ (r.router x).number + one (announces_low (top + 1) 0 x (r.router x) (t.router x))
      step = ⊎_elim
          (λ n. omega (arith, n))
          (λ n. omega (
            arith,
            n,
            (one_facts (announces_low (top + 1) 0 x (r.router x) (t.router x))).2 (announced n),
          ))
          slowly.1
        where
          announced : (t.router x).number ≡ (r.router x).number + 1
              → announces_low (top + 1) 0 x (r.router x) (t.router x) ≡ true
          announced n = ⊎_elim
              (λ l. grind (arith, nat_tests, n, l, above))
              (λ same. grind (arith, nat_tests, n, same))
              stays.0

  together : (n : ℕ) → n ≤ routers → times_of_all s (last s ts) n ≤ below (of_one (top + 1) 0) n
  unfolding below of_one
  together zero within = omega arith
  together (suc n) within = omega (
    arith,
    all_below n s ts run (slow n (omega (arith, within))) (keeps n (omega (arith, within))).below,
    together n (omega (arith, within)),
  )

  rest : times_of_all s (last s ts) routers ≤ (1 + most) * 2 ^ ((ceiling + 1) * routers)
  unfolding lower
  rest = omega (arith, together routers (omega arith), step_up top ceiling below_top)

pub announcements_end : AnnouncementsEnd
announcements_end s past future ceiling top routers most low beside begins ran runs above keeps = rest ceiling top
    routers most above low beside (last s past) future (held s past begins ran) runs keeps
