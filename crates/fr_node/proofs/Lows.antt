-- How often a router hears of a neighbour what is below it at one height: no more often than it has not heard of it at
-- first, and the neighbour announces such heights.
use Rattle.std.proofs.Common.{Bool, Contains, List, [], add-one, ap, arith, inl, inr, not, refl, subst, suc, sym}
use Rattle.std.proofs.Common.{true, zero, ℕ, ⊎_elim, ◌∷◌, ◌&&◌, ◌+◌, ◌-◌, ◌<◌, ◌==◌, ◌≡◌, ◌≤◌, ◌⊎◌, ◌∙◌}
use Rattle.std.proofs.lemmas.Bool.{cases_Bool, cases_lt}
use Rattle.std.proofs.lemmas.Bool.Decides.{nat_tests}
use Rattle.fr_node.specs.declared.message.Message.{Message}
use Rattle.fr_node.specs.Heights.{FallsBeside, KeepsActing, RisesBeside, steps_with}
use Rattle.fr_node.specs.Paths.{is_below, is_low, unheard}
use Rattle.fr_node.specs.Routers.{GoesOn, IsFrom, IsRun, IsStep, Net, Router, last}
use Rattle.fr_node.proofs.Counting.{one, one_facts}
use Rattle.fr_node.proofs.LinkSteps.{hears_on, listed_still}
use Rattle.fr_node.proofs.Moments.{Holds, goes_on, heard_most, holds_after}
use Rattle.fr_node.proofs.Rule.{step_kept}
use Rattle.fr_node.proofs.Unheard.{HearsOn, IsCount, by_less, by_most, more_by, unheard_by}

-- router w has announced a height below router x at height e
abbrev pub announces_low : (e x w : ℕ) → Router → Router → Bool
announces_low e x w r t = not (t.number == r.number) && is_below x e w (t.announced t.number)

-- router x has heard such a height of w, and it is new
abbrev pub hears_new : (e x w : ℕ) → Router → Router → Bool
hears_new e x w r t = not (t.peer w == r.peer w && t.heard w == r.heard w) && is_low e x w t

-- which of the announcements a are such heights
module _ (e x w : ℕ) (a : ℕ → ℕ) where
  lows : ℕ → ℕ
  lows zero = 0
  lows (suc n) = one (is_below x e w (a (suc n))) + lows n

  lows_next : (n : ℕ) → lows (n + 1) ≡ one (is_below x e w (a (n + 1))) + lows n
  unfolding lows
  lows_next n = rw (add-one n) refl

  lows_between : (n m : ℕ) → n ≤ m → (lows n ≤ lows m) × (lows m ≤ lows n + (m - n))
  unfolding lows
  lows_between n zero l = let e : n ≡ 0 = omega (arith, l) in rw e (omega arith, omega arith)
  lows_between n (suc m) l = ⊎_elim
      (λ less. let before = lows_between n m (omega (arith, less)) in
      let here = one_facts (is_below x e w (a (suc m))) in
      (omega (arith, before.0), omega (arith, before.1, here.0, less)))
      (λ (most : suc m ≤ n). let e : n ≡ suc m = omega (arith, l, most) in rw e (omega arith, omega arith))
      (cases_lt n (suc m))

  counts : IsCount lows
  unfolding lows
  counts = record {
    none = refl;
    grows = λ n m l. (lows_between n m l).0;
    slow = λ n m l. (lows_between n m l).1;
  }

  lows_gain : (n k : ℕ) → is_below x e w (a n) ≡ true → k < n → lows k < lows n
  unfolding lows
  lows_gain zero k is l = absurd (omega (arith, l))
  lows_gain (suc n) k is l = omega (
    arith,
    (one_facts (is_below x e w (a (suc n)))).2 is,
    (lows_between k n (omega (arith, l))).0,
  )

-- One step. The router w has announced a
module _ (e x w : ℕ) (s t : Net) (holds : Holds s) (step : IsStep s t) (itself : (t.router x).boot ≡ (s.router x).boot)
    (boot : (t.router w).boot ≡ (s.router w).boot) (pool : List Message) (number : ℕ) (a : ℕ → ℕ)
    (is : (n : ℕ) → n ≤ (s.router w).number → a n ≡ (s.router w).announced n)
    (listed : (m : Message) → Contains s.pool m → m.from ≡ w → m.boot < (s.router w).boot → Contains pool m)
    (enough : (t.router w).number ≤ number) where
  left : Router → ℕ
  left r = unheard_by (lows e x w a) (s.router w).boot number pool x w r

  goes : GoesOn s.pool x (s.router x) (t.router x)
  goes = goes_on x s t step itself

  on : HearsOn w (s.router x) (t.router x)
  on = hears_on x w s.pool (s.router x) (t.router x) goes

  known : (t.router x).peer w ≤ (s.router w).boot
  known = omega (arith, (step_kept s t holds.rule step).peers x w, boot)

  most : (t.router x).peer w ≡ (s.router w).boot → (t.router x).heard w ≤ number
  most same = omega (arith, heard_most x w t (step_kept s t holds.rule step) (omega (arith, same, boot)), enough)

  took : (m : Message) → IsFrom s.pool x w m → (t.router x).peer w ≡ m.boot → (t.router x).heard w ≡ m.number
      → (t.router x).seen w ≡ m.height
      → ((t.router x).peer w ≡ (s.router x).peer w → (s.router x).heard w ≤ m.number)
      → hears_new e x w (s.router x) (t.router x) ≡ true → left (t.router x) + 1 ≤ left (s.router x)
  unfolding left
  took m f b n v up new = by_less (lows e x w a) (counts e x w a) (s.router w).boot number pool x w (s.router x)
      (t.router x) on known most m f.from f.to b n some later (λ old. listed m f.said f.from old)
      (λ now k l. lows_gain e x w a m.number k (is_low_now now) l)
    where
      some : 0 < m.number
      some = grind (arith, nat_tests, new, n)

      later : (t.router x).peer w ≡ (s.router x).peer w → (s.router x).heard w < m.number
      later same = ⊎_elim (λ l. l) (λ least. absurd (again (omega (arith, least, up same, n))))
          (cases_lt ((s.router x).heard w) m.number)
        where
          again : (t.router x).heard w ≡ (s.router x).heard w → ⊥
          again h = grind (arith, nat_tests, new, same, h)

      is_low_now : (t.router x).peer w ≡ (s.router w).boot → is_below x e w (a m.number) ≡ true
      is_low_now now = rw height here
        where
          present : m.boot ≡ (s.router m.from).boot
          present = omega (arith, b, now, ap (λ (y : ℕ). (s.router y).boot) f.from)

          numbers : (m.number ≤ (s.router w).number) × (m.height ≡ (s.router w).announced m.number)
          numbers = subst (λ (y : ℕ). (m.number ≤ (s.router y).number)
              × (m.height ≡ (s.router y).announced m.number)) f.from (holds.rule.numbers m f.said present)

          height : a m.number ≡ (t.router x).seen w
          height = omega (arith, is m.number numbers.0, numbers.1, v)

          here : is_below x e w ((t.router x).seen w) ≡ true
          here = grind (arith, nat_tests, new)

  hear_step : one (hears_new e x w (s.router x) (t.router x)) + left (t.router x) ≤ left (s.router x)
  unfolding left
  hear_step = ⊎_elim
      (λ new. omega (arith, (one_facts (hears_new e x w (s.router x) (t.router x))).0, heard new))
      (λ old. omega (
        arith,
        (one_facts (hears_new e x w (s.router x) (t.router x))).1 old,
        by_most (lows e x w a) (counts e x w a) (s.router w).boot number pool x w (s.router x) (t.router x) on known
            most,
      ))
      (cases_Bool (hears_new e x w (s.router x) (t.router x)))
    where
      heard : hears_new e x w (s.router x) (t.router x) ≡ true → left (t.router x) + 1 ≤ left (s.router x)
      heard new = ⊎_elim
          (λ kept. absurd (same kept.0 kept.1))
          (⊎_elim (λ nil. absurd (forgot nil.1)) (λ h. took h.0 h.1 h.3 h.4 h.5 h.6 new))
          (goes.height w)
        where
          same : (t.router x).peer w ≡ (s.router x).peer w → (t.router x).heard w ≡ (s.router x).heard w → ⊥
          same p h = grind (arith, nat_tests, new, p, h)

          forgot : (t.router x).heard w ≡ 0 → ⊥
          forgot nil = grind (arith, nat_tests, new, nil)

-- A run

-- in these networks router x does not restart, and announces at most one height in each step
abbrev pub GoesSlowly : ℕ → Net → List Net → Type 0
GoesSlowly x s [] = Unit {0}
GoesSlowly x s (t ∷ ts) = ((t.router x).boot ≡ (s.router x).boot)
    × (((t.router x).number ≡ (s.router x).number) ⊎ ((t.router x).number ≡ (s.router x).number + 1))
    × GoesSlowly x t ts

pub goes_slowly : (low : (e w h : ℕ) → Bool) (x : ℕ) (ws : List ℕ) (s : Net) (ts : List Net)
    → KeepsActing low x ws s ts → GoesSlowly x s ts
goes_slowly low x ws s [] keeps = tt
goes_slowly low x ws s (t ∷ ts) keeps = (
  keeps.0,
  ⊎_elim (λ same. inl same) (⊎_elim
      (λ (rises : RisesBeside low ws (s.router x) (t.router x)). inr rises.number)
      (λ (falls : FallsBeside low ws (s.router x) (t.router x)). inr falls.number)) keeps.1,
  goes_slowly low x ws t ts keeps.2,
)

-- what router w has announced stays
pub announced_on : (w : ℕ) (s : Net) (ts : List Net) → IsRun s ts → GoesSlowly w s ts
    → ((s.router w).number ≤ ((last s ts).router w).number)
    × ((n : ℕ) → n ≤ (s.router w).number → ((last s ts).router w).announced n ≡ (s.router w).announced n)
announced_on w s [] run slow = (omega arith, λ n l. refl)
announced_on w s (t ∷ ts) run slow =
    let goes = goes_on w s t run.0 slow.0 in
    let rest = announced_on w t ts run.1 slow.2 in
    (omega (arith, goes.number, rest.0), λ n l. rest.1 n (omega (arith, l, goes.number)) ∙ goes.announced n l)

-- what it has announced in the end
ends : ℕ → Net → List Net → ℕ → ℕ
ends w s ts = ((last s ts).router w).announced

hears_run : (e x w : ℕ) (s : Net) (ts : List Net) → Holds s → IsRun s ts → GoesSlowly x s ts → GoesSlowly w s ts
    → (pool : List Message)
    → ((m : Message) → Contains s.pool m → m.from ≡ w → m.boot < (s.router w).boot → Contains pool m)
    → steps_with (hears_new e x w) x s ts ≤ unheard_by (lows e x w (ends w s ts)) (s.router w).boot
    ((last s ts).router w).number pool x w (s.router x)
unfolding ends left one
hears_run e x w s [] holds run itself there pool listed = omega arith
hears_run e x w s (t ∷ ts) holds run itself there pool listed = add
    (hears_run e x w t ts (holds_after s (t ∷ []) holds (run.0, tt)) run.1 itself.2 there.2 pool
    (listed_still w s t run.0 there.0 pool listed))
    (hear_step e x w s t holds run.0 itself.0 there.0 pool ((last t ts).router w).number (ends w t ts)
    (announced_on w s (t ∷ ts) run there).1 listed (announced_on w t ts run.1 there.2).0)
  where
    add : steps_with (hears_new e x w) x t ts ≤ unheard_by (lows e x w (ends w t ts)) (t.router w).boot
        ((last t ts).router w).number pool x w (t.router x)
        → one (hears_new e x w (s.router x) (t.router x))
        + unheard_by (lows e x w (ends w t ts)) (s.router w).boot ((last t ts).router w).number pool x w (t.router x)
        ≤ unheard_by (lows e x w (ends w t ts)) (s.router w).boot ((last t ts).router w).number pool x w (s.router x)
        → steps_with (hears_new e x w) x s (t ∷ ts) ≤ unheard_by (lows e x w (ends w t ts)) (s.router w).boot
        ((last t ts).router w).number pool x w (s.router x)
    add rest here = omega (
      arith,
      rest,
      here,
      ap (λ (start : ℕ). unheard_by (lows e x w (ends w t ts)) start ((last t ts).router w).number pool x w
          (t.router x)) there.0,
    )

-- of the announcements of w those that are low
module _ (e x w : ℕ) (a : ℕ → ℕ) (r t : Router) (is : a t.number ≡ t.announced t.number) where
  lows_step : (t.number ≡ r.number) ⊎ (t.number ≡ r.number + 1)
      → lows e x w a t.number ≤ lows e x w a r.number + one (announces_low e x w r t)
  lows_step (inl same) = omega (arith, ap (lows e x w a) same)
  lows_step (inr more) = ⊎_elim
      (λ y. omega (
        arith,
        counted,
        (one_facts (announces_low e x w r t)).2 (announced y),
        (one_facts (is_below x e w (a t.number))).0,
      ))
      (λ f. omega (arith, counted, (one_facts (is_below x e w (a t.number))).1 f))
      (cases_Bool (is_below x e w (a t.number)))
    where
      counted : lows e x w a t.number ≡ one (is_below x e w (a t.number)) + lows e x w a r.number
      counted = subst (λ (k : ℕ). lows e x w a k ≡ one (is_below x e w (a k)) + lows e x w a r.number) (sym more)
          (lows_next e x w a r.number)

      announced : is_below x e w (a t.number) ≡ true → announces_low e x w r t ≡ true
      announced y = let z = subst (λ (v : ℕ). is_below x e w v ≡ true) is y in grind (arith, nat_tests, z, more)

lows_run : (e x w : ℕ) (s : Net) (ts : List Net) → IsRun s ts → GoesSlowly w s ts
    → lows e x w (ends w s ts) ((last s ts).router w).number
    ≤ lows e x w (ends w s ts) (s.router w).number + steps_with (announces_low e x w) w s ts
unfolding ends one
lows_run e x w s [] run slow = omega arith
lows_run e x w s (t ∷ ts) run slow = omega (
  arith,
  lows_run e x w t ts run.1 slow.2,
  lows_step e x w (ends w t ts) (s.router w) (t.router w)
      ((announced_on w t ts run.1 slow.2).1 (t.router w).number (omega arith)) slow.1,
)

pub hears_bound : (e x w : ℕ) (s : Net) (ts : List Net) → Holds s → IsRun s ts → GoesSlowly x s ts
    → GoesSlowly w s ts
    → steps_with (hears_new e x w) x s ts ≤ unheard s x w + steps_with (announces_low e x w) w s ts
hears_bound e x w s ts holds run itself there = omega (
  arith,
  hears_run e x w s ts holds run itself there s.pool (λ m h _ _. h),
  more_by (lows e x w (ends w s ts)) (counts e x w (ends w s ts)) (s.router w).boot (s.router w).number
      ((last s ts).router w).number s.pool x w (s.router x) (announced_on w s ts run there).0
      (heard_most x w s holds.rule),
  lows_run e x w s ts run there,
)
