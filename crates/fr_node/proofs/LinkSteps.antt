-- How many heights a router may still announce beside a link that stays up, before and after one step.
use Rattle.std.proofs.Common.{Contains, List, ap, arith, cond, false, inl, inr, refl, subst, sym, true, ℕ, ⊎_elim}
use Rattle.std.proofs.Common.{◌*◌, ◌+◌, ◌<◌, ◌≡◌, ◌≤◌, ◌⊎◌, ◌∙◌}
use Rattle.std.proofs.lemmas.Bool.{cases_Bool, cases_lt}
use Rattle.std.proofs.lemmas.Bool.Decides.{nat_tests}
use Rattle.fr_node.specs.declared.message.Message.{Message}
use Rattle.fr_node.specs.Lowerings.{Falls, is_fall}
use Rattle.fr_node.specs.Paths.{Rises, Stays, may_rise, unheard_of}
use Rattle.fr_node.specs.Routers.{GoesOn, IsBelow, IsFrom, IsSaidBy, IsStep, Net, Router}
use Rattle.fr_node.proofs.Moments.{Holds, goes_on, heard_most, same_height}
use Rattle.fr_node.proofs.Rule.{KeepsRule, step_kept}
use Rattle.fr_node.proofs.Unheard.{HearsOn, by_less, by_most, counts_all, present, same_or_less, unheard_by}

-- 1 if router x, in this state, may rise by what it has heard of w, and else 0
abbrev pub free : ℕ → ℕ → Router → ℕ
free x w r = cond (may_rise x w r) 1 0

pub free_most : (x w : ℕ) (r : Router) → free x w r ≤ 1
free_most x w r = ⊎_elim (λ t. rw t (omega arith)) (λ f. rw f (omega arith)) (cases_Bool (may_rise x w r))

free_same : (x w : ℕ) (r t : Router) → t.heard w ≡ r.heard w → t.seen w ≡ r.seen w
    → t.announced t.number ≡ r.announced r.number → free x w t ≡ free x w r
free_same x w r t h s a = rw h (rw s (rw a refl))

free_unheard : (x w : ℕ) (r : Router) → r.heard w ≡ 0 → free x w r ≡ 0
free_unheard x w r h = rw h refl

free_risen : (x w : ℕ) (r t : Router) → Rises x w r t → free x w t ≡ 0
free_risen x w r t rise = ⊎_elim (λ y. absurd (not_above y)) (λ f. rw f refl) (cases_Bool (may_rise x w t))
  where
    not_above : may_rise x w t ≡ true → ⊥
    not_above y = grind (arith, nat_tests, rise.above)

free_rising : (x w : ℕ) (r t : Router) → Rises x w r t → t.heard w ≡ r.heard w → t.seen w ≡ r.seen w
    → free x w r ≡ 1
free_rising x w r t rise h e = ⊎_elim (λ y. rw y refl) (λ f. absurd (below f)) (cases_Bool (may_rise x w r))
  where
    below : may_rise x w r ≡ false → ⊥
    below f = rise.not_lower (subst (λ (v : ℕ). IsBelow v w (r.announced r.number) x) (sym e)
        (is_below f (omega (arith, rise.heard, h))))
      where
        is_below : may_rise x w r ≡ false → 0 < r.heard w → IsBelow (r.seen w) w (r.announced r.number) x
        is_below f some = ⊎_elim (λ l. inl l)
            (λ most. inr (grind (arith, nat_tests, most), grind (arith, nat_tests, most)))
            (cases_lt (r.seen w) (r.announced r.number))

-- 1 if the router falls, and else 0
abbrev pub fall : Router → Router → ℕ
fall r t = cond (is_fall r t) 1 0

fall_counts : (r t : Router) → Falls r t → fall r t ≡ 1
fall_counts r t f = ⊎_elim (λ y. rw y refl) (λ same. absurd (never same)) (cases_Bool (is_fall r t))
  where
    never : is_fall r t ≡ false → ⊥
    never same = grind (arith, nat_tests, f.lower)

pub hears_on : (x w : ℕ) (pool : List Message) (r t : Router) → GoesOn pool x r t → HearsOn w r t
hears_on x w pool r t goes = record {
  peer = (goes.start w).0;
  heard = λ same. ⊎_elim
      (λ e. omega (arith, e.1))
      (⊎_elim (λ e. absurd (omega (arith, e.0, same))) (λ h. omega (arith, h.4, h.6 same)))
      (goes.height w);
}

-- `pool` has all messages of earlier starts of w, and `number` is at least the number of its announcements
module _ (x w : ℕ) (s t : Net) (holds : Holds s) (step : IsStep s t) (itself : (t.router x).boot ≡ (s.router x).boot)
    (boot : (t.router w).boot ≡ (s.router w).boot) (pool : List Message) (number : ℕ)
    (listed : (m : Message) → Contains s.pool m → m.from ≡ w → m.boot < (s.router w).boot → Contains pool m)
    (enough : (t.router w).number ≤ number) where
  left : Router → ℕ
  left r = unheard_of (s.router w).boot number pool x w r

  rule_after : KeepsRule t
  rule_after = step_kept s t holds.rule step

  goes : GoesOn s.pool x (s.router x) (t.router x)
  goes = goes_on x s t step itself

  on : HearsOn w (s.router x) (t.router x)
  on = hears_on x w s.pool (s.router x) (t.router x) goes

  known : (t.router x).peer w ≤ (s.router w).boot
  known = omega (arith, rule_after.peers x w, boot)

  most : (t.router x).peer w ≡ (s.router w).boot → (t.router x).heard w ≤ number
  most e = omega (arith, heard_most x w t rule_after (omega (arith, e, boot)), enough)

  left_most : left (t.router x) ≤ left (s.router x)
  unfolding left unheard_by present
  left_most = by_most (λ n. n) counts_all (s.router w).boot number pool x w (s.router x) (t.router x) on known most

  falls_bound : Falls (s.router x) (t.router x) → (t.router x).number + free x w (t.router x) + left (t.router x)
      ≤ (s.router x).number + free x w (s.router x) + left (s.router x) + 2 * fall (s.router x) (t.router x)
  falls_bound f = omega (
    arith,
    f.number,
    fall_counts (s.router x) (t.router x) f,
    free_most x w (t.router x),
    left_most,
  )

  module _ (rises : ((t.router x).number ≡ (s.router x).number) ⊎ Rises x w (s.router x) (t.router x)) where
    Bound : Type 0
    Bound = (t.router x).number + free x w (t.router x) + left (t.router x)
        ≤ (s.router x).number + free x w (s.router x) + left (s.router x)

    -- nothing was heard that is new
    nothing_new : (t.router x).heard w ≡ (s.router x).heard w
        → (0 < (s.router x).heard w → (t.router x).seen w ≡ (s.router x).seen w) → Bound
    unfolding Bound
    nothing_new h seen = ⊎_elim some none_heard (cases_lt 0 ((s.router x).heard w))
      where
        none_heard : (s.router x).heard w ≤ 0 → Bound
        none_heard nil = ⊎_elim
            (λ n. omega (arith, n, free_unheard x w (t.router x) (omega (arith, nil, h)), left_most))
            (λ (r : Rises x w (s.router x) (t.router x)). absurd (omega (arith, r.heard, h, nil)))
            rises

        some : 0 < (s.router x).heard w → Bound
        some much = ⊎_elim
            (λ n. omega (
              arith,
              n,
              free_same x w (s.router x) (t.router x) h (seen much)
                  (ap (λ (k : ℕ). (t.router x).announced k) n ∙ goes.announced (s.router x).number (omega arith)),
              left_most,
            ))
            (λ (r : Rises x w (s.router x) (t.router x)). omega (
              arith,
              r.number,
              free_risen x w (s.router x) (t.router x) r,
              free_rising x w (s.router x) (t.router x) r h (seen much),
              left_most,
            ))
            rises

    -- what was heard is forgotten, or nothing is heard of a start
    nothing_heard : (t.router x).heard w ≡ 0 → Bound
    unfolding Bound
    nothing_heard nil = ⊎_elim
        (λ n. omega (arith, n, free_unheard x w (t.router x) nil, left_most))
        (λ (r : Rises x w (s.router x) (t.router x)). absurd (omega (arith, r.heard, nil)))
        rises

    took : (m : Message) → IsFrom s.pool x w m → (t.router x).peer w ≡ m.boot → (t.router x).heard w ≡ m.number
        → (t.router x).seen w ≡ m.height
        → ((t.router x).peer w ≡ (s.router x).peer w → (s.router x).heard w ≤ m.number) → Bound
    unfolding Bound left unheard_by present
    took m f b n v up = ⊎_elim even less
        (same_or_less ((s.router x).peer w) ((t.router x).peer w) ((goes.start w).0))
      where
        news : 0 < m.number → ((t.router x).peer w ≡ (s.router x).peer w → (s.router x).heard w < m.number) → Bound
        news some new =
            let less = by_less (λ n. n) counts_all (s.router w).boot number pool x w (s.router x) (t.router x) on known
            most m f.from f.to b n some new (λ old. listed m f.said f.from old) (λ _ a l. l) in
            ⊎_elim
            (λ k. omega (arith, k, free_most x w (t.router x), less))
            (λ (r : Rises x w (s.router x) (t.router x)). omega
            (arith, r.number, free_risen x w (s.router x) (t.router x) r, less))
            rises

        less : (s.router x).peer w < (t.router x).peer w → Bound
        less l = ⊎_elim
            (λ some. news some (λ e. absurd (omega (arith, e, l))))
            (λ nil. nothing_heard (omega (arith, nil, n)))
            (cases_lt 0 m.number)

        even : (s.router x).peer w ≡ (t.router x).peer w → Bound
        even e = ⊎_elim
            (λ later. news (omega (arith, later)) (λ _. later))
            (λ most. nothing_new (again most) (same_height x w s t holds goes (sym e) (again most)))
            (cases_lt ((s.router x).heard w) m.number)
          where
            again : m.number ≤ (s.router x).heard w → (t.router x).heard w ≡ (s.router x).heard w
            again most = omega (arith, most, n, up (sym e))

    stays_bound : Bound
    stays_bound = ⊎_elim
        (λ e. nothing_new e.1 (λ _. e.2))
        (⊎_elim (λ e. nothing_heard e.1) (λ h. took h.0 h.1 h.3 h.4 h.5 h.6))
        (goes.height w)

-- messages of earlier starts are not new
pub listed_still : (w : ℕ) (s t : Net) → IsStep s t → (t.router w).boot ≡ (s.router w).boot → (pool : List Message)
    → ((m : Message) → Contains s.pool m → m.from ≡ w → m.boot < (s.router w).boot → Contains pool m)
    → (m : Message) → Contains t.pool m → m.from ≡ w → m.boot < (t.router w).boot → Contains pool m
listed_still w s t step boot pool listed m h from less = ⊎_elim
    (λ old. listed m old from (omega (arith, less, boot)))
    (λ (new : IsSaidBy (s.router m.from) m). absurd (omega (
      arith,
      new.boot,
      less,
      boot,
      ap (λ (y : ℕ). (s.router y).boot) from,
    )))
    (step.new m h)

pub same_start : (x w : ℕ) (r t : Router) → Stays x w r t ⊎ Falls r t → t.boot ≡ r.boot
same_start x w r t (inl stays) = stays.boot
same_start x w r t (inr f) = f.boot

pub step_bound : (x w : ℕ) (s t : Net) → Holds s → IsStep s t
    → Stays x w (s.router x) (t.router x) ⊎ Falls (s.router x) (t.router x)
    → (t.router w).boot ≡ (s.router w).boot → (pool : List Message) (number : ℕ)
    → ((m : Message) → Contains s.pool m → m.from ≡ w → m.boot < (s.router w).boot → Contains pool m)
    → (t.router w).number ≤ number
    → (t.router x).number + free x w (t.router x) + unheard_of (s.router w).boot number pool x w (t.router x)
    ≤ (s.router x).number + free x w (s.router x) + unheard_of (s.router w).boot number pool x w (s.router x)
    + 2 * fall (s.router x) (t.router x)
unfolding left Bound
step_bound x w s t holds step (inl stays) boot pool number listed enough = omega
    (arith, stays_bound x w s t holds step stays.boot boot pool number listed enough stays.rises)
step_bound x w s t holds step (inr f) boot pool number listed enough = omega
    (arith, falls_bound x w s t holds step f.boot boot pool number listed enough f)

-- a router that stays does not fall
pub no_fall : (x w : ℕ) (s t : Net) → IsStep s t → Stays x w (s.router x) (t.router x)
    → fall (s.router x) (t.router x) ≡ 0
no_fall x w s t step stays = ⊎_elim (λ y. absurd (never y)) (λ f. rw f refl)
    (cases_Bool (is_fall (s.router x) (t.router x)))
  where
    goes : GoesOn s.pool x (s.router x) (t.router x)
    goes = goes_on x s t step stays.boot

    never : is_fall (s.router x) (t.router x) ≡ true → ⊥
    never y = ⊎_elim kept risen stays.rises
      where
        kept : (t.router x).number ≡ (s.router x).number → ⊥
        kept n = let same = ap (λ (k : ℕ). (t.router x).announced k) n
            ∙ goes.announced (s.router x).number (omega arith) in grind (arith, nat_tests, y, same)

        risen : Rises x w (s.router x) (t.router x) → ⊥
        risen rise = ⊎_elim
            (λ l. rise.not_lower (inl l))
            (λ most. let above = rise.above in grind (arith, nat_tests, y, most, above))
            (cases_lt ((t.router x).seen w) ((s.router x).announced (s.router x).number))
