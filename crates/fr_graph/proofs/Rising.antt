-- The links of a network, put in order, increase.
use Rattle.std.proofs.Common.{Contains, List, [], arith, inl, inr, refl, subst, suc, sym, zero, ℕ, ◌+◌, ◌∷◌, ◌≡◌, ◌≤◌}
use Rattle.std.proofs.lemmas.Bool.{cases_lt}
use Rattle.fr_graph.proofs.Counting.{weigh}
use Rattle.fr_graph.proofs.Members.{Contains-head}
use Rattle.fr_graph.proofs.Ordering.{is_pair, itself, one_counted, order_tail, times, times-cons, up_both}
use Rattle.fr_graph.proofs.TurnedRows.{single_once}
use Rattle.fr_graph.specs.Links.{AreSingle}
use Rattle.fr_graph.specs.Order.{AreInOrder, AreRising, IsBefore, IsNotAfter}

before_or_same : {p q : ℕ × ℕ} → IsNotAfter p q → ¬ (p ≡ q) → IsBefore p q
before_or_same (inl a) other = inl a
before_or_same {p} {q} (inr e) other =
    elim (cases_lt p.1 q.1) [
      | inl lt ↦ inr (e.0, lt)
      | inr le ↦ absurd (other (up_both p q (inr e) (inr (sym e.0, le))))
    ]

-- a link that occurs once is not the next one as well
not_next : (p q : ℕ × ℕ) (qs : List (ℕ × ℕ)) → times (p ∷ (q ∷ qs)) p ≤ 1 → ¬ (p ≡ q)
not_next p q qs once same =
    let one : weigh (is_pair p.0 p.1 p) ≡ 1 = rw (itself p) refl in
    let more = one_counted (q ∷ qs) p (subst (λ (x : ℕ × ℕ). Contains (q ∷ qs) x) (sym same) (Contains-head q qs)) in
    omega (arith, once, times-cons p (q ∷ qs) p, one, more)

-- links in order increase if each one occurs once
rising_once_each : (links : List (ℕ × ℕ)) → AreInOrder links → ((x : ℕ × ℕ) → times links x ≤ 1) → AreRising links
rising_once_each [] order once k d l = absurd (omega arith)
rising_once_each (p ∷ []) order once k d l = absurd (omega arith)
rising_once_each (p ∷ (q ∷ qs)) order once zero d l =
    before_or_same (order 0 d (omega arith)) (not_next p q qs (once p))
rising_once_each (p ∷ (q ∷ qs)) order once (suc k) d l =
    let e : suc k + 1 ≡ suc (k + 1) = omega arith in
    rw e (rising_once_each (q
    ∷ qs) (order_tail p (q ∷ qs) order) (λ x. omega (arith, once x, times-cons p (q ∷ qs) x)) k d (omega arith))

pub links_rise : (links : List (ℕ × ℕ)) → AreInOrder links → AreSingle links → AreRising links
links_rise links order single = rising_once_each links order (λ x. single_once links x single)
