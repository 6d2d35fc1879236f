-- A history is a run or has one first bad entry, and never both.
use Rattle.std.proofs.Common.{List, [], ap, arith, inl, inr, length, refl, subst, suc, sym, ℕ, ⊎_elim, ◌++◌, ◌+◌, ◌∙◌}
use Rattle.std.proofs.Common.{◌∷◌, ◌≡◌, ◌⊎◌}
use Rattle.std.proofs.lemmas.Bool.{cases_eq, cases_lt}
use Rattle.fr_core.proofs.Finishing.{cases_sink}
use Rattle.fr_core.proofs.Rounds.{run_parts}
use Rattle.fr_graph.proofs.Neighbours.{cases_points}
use Rattle.fr_core.specs.Checks.{Fails, FailsReply, FailsTurn, IsBadAt}
use Rattle.fr_core.specs.History.{Moment, after, after_all, count_at}
use Rattle.fr_core.specs.Legal.{IsLegal, IsLegalReply, IsRun}
use Rattle.fr_core.specs.declared.check.fault.Why.{Why}
use Rattle.fr_core.specs.declared.check.fault.Why.TheVariants.{Capped, Destination, NoNode, NotCut, NotHeld, NotMoved}
use Rattle.fr_core.specs.declared.check.fault.Why.TheVariants.{NotSink, WrongCount}
use Rattle.fr_core.specs.declared.entry.Entry.{Entry}
use Rattle.fr_core.specs.declared.entry.Reply.{Reply}
use Rattle.fr_core.specs.declared.entry.Reply.TheVariants.{Cut, Held, Moved, Sink, Turned}

-- what fails a test is not legal
turn_not_legal : (n d : ℕ) (m : Moment) (x k : ℕ) (why : Why) → FailsTurn n d m x k why
    → ¬ IsLegalReply n d m x (Turned k)
turn_not_legal n d m x k Destination f l = l.0.not_destination f
turn_not_legal n d m x k Capped f l = let below = l.0.below_cap in omega (arith, f.1)
turn_not_legal n d m x k NotSink f l = f.2 l.0.sink
turn_not_legal n d m x k WrongCount f l = f.1 l.1
turn_not_legal n d m x k NoNode f l = f
turn_not_legal n d m x k NotHeld f l = f
turn_not_legal n d m x k NotMoved f l = f
turn_not_legal n d m x k NotCut f l = f

reply_not_legal : (n d : ℕ) (m : Moment) (x : ℕ) (r : Reply) (why : Why) → FailsReply n d m x r why
    → ¬ IsLegalReply n d m x r
reply_not_legal n d m x (Turned k) why f l = turn_not_legal n d m x k why f l
reply_not_legal n d m x (Held by) why f l = f.1 l
reply_not_legal n d m x (Moved had k) why f l = f.1 l
reply_not_legal n d m x Cut why f l = f.1 l
reply_not_legal n d m x Sink why f l = f.1 l

not_legal : (n d : ℕ) (m : Moment) (e : Entry) (why : Why) → Fails n d m e why → ¬ IsLegal n d m e
not_legal n d m e why (inl f) l = omega (arith, f.1, l.0)
not_legal n d m e why (inr f) l = reply_not_legal n d m e.node e.reply why f.1 l.1

pub bad_is_no_run : (n d : ℕ) (m : Moment) (entries : List Entry) (index : ℕ) (why : Why)
    → IsBadAt n d m entries index why → ¬ IsRun n d m entries
bad_is_no_run n d m entries index why bad run =
    let parts = run_parts n d m bad.front (bad.bad ∷ bad.back) (subst (IsRun n d m) bad.parted run) in
    not_legal n d (after_all m bad.front) bad.bad why bad.fails parts.1.0

-- what is not legal fails a test
test_turn : (n d : ℕ) (m : Moment) (x k : ℕ) → IsLegalReply n d m x (Turned k) ⊎ ((why : Why) × FailsTurn n d m x k why)
test_turn n d m x k =
    elim (cases_eq x d) [
      | inl at ↦ inr (Destination, at)
      | inr not_at ↦ elim (cases_lt (count_at m x) n) [
        | inr high ↦ inr (Capped, (not_at, omega (arith, high)))
        | inl low ↦ elim (cases_sink m.links x) [
          | inr out ↦ inr (NotSink, (not_at, low, out))
          | inl sink ↦ elim (cases_eq k (count_at m x + 1)) [
            | inl is ↦ inl (record { not_destination = not_at; below_cap = low; sink = sink }, is)
            | inr other ↦ inr (WrongCount, (record { not_destination = not_at; below_cap = low; sink = sink }, other))
          ]
        ]
      ]
    ]

test_reply : (n d : ℕ) (m : Moment) (x : ℕ) (r : Reply)
    → IsLegalReply n d m x r ⊎ ((why : Why) × FailsReply n d m x r why)
test_reply n d m x (Turned k) = test_turn n d m x k
test_reply n d m x (Held by) = ⊎_elim (λ p. inl p) (λ no. inr (NotHeld, (refl, no))) (cases_points m.links x by)
test_reply n d m x (Moved had k) = ⊎_elim
    (λ is. ⊎_elim (λ l. inl (is, l)) (λ high. inr (NotMoved, (refl, λ both. omega (arith, high, both.1))))
    (cases_lt had k))
    (λ no. inr (NotMoved, (refl, λ both. no both.0)))
    (cases_eq k (count_at m x))
test_reply n d m x Cut = ⊎_elim (λ e. inl e) (λ no. inr (NotCut, (refl, no))) (cases_eq (count_at m x) n)
test_reply n d m x Sink = ⊎_elim (λ s. inl s) (λ no. inr (NotSink, (refl, no))) (cases_sink m.links x)

test : (n d : ℕ) (m : Moment) (e : Entry) → IsLegal n d m e ⊎ ((why : Why) × Fails n d m e why)
test n d m e = ⊎_elim
    (λ l. ⊎_elim (λ legal. inl (l, legal)) (λ f. inr (f.0, inr (l, f.1))) (test_reply n d m e.node e.reply))
    (λ out. inr (NoNode, inl (refl, omega (arith, out))))
    (cases_lt e.node n)

pub run_or_bad : (n d : ℕ) (m : Moment) (entries : List Entry)
    → IsRun n d m entries ⊎ ((index : ℕ) × (why : Why) × IsBadAt n d m entries index why)
run_or_bad n d m [] = inl tt
run_or_bad n d m (e ∷ es) = ⊎_elim
    (λ legal. ⊎_elim
    (λ run. inl (legal, run))
    (λ b. (let bad = b.2 in inr (
      suc b.0,
      b.1,
      record {
        front = e ∷ bad.front;
        bad = bad.bad;
        back = bad.back;
        parted = ap (λ (r : List Entry). e ∷ r) bad.parted;
        place = ap suc bad.place;
        run = (legal, bad.run);
        fails = bad.fails;
      },
    )))
    (run_or_bad n d (after m e) es))
    (λ f. inr (0, f.0, record { front = []; bad = e; back = es; parted = refl; place = refl; run = tt; fails = f.1 }))
    (test n d m e)

-- an entry fails one test alone
one_turn_why : (n d : ℕ) (m : Moment) (x k : ℕ) (why other : Why) → FailsTurn n d m x k why → FailsTurn n d m x k other
    → why ≡ other
one_turn_why n d m x k Destination Destination f g = refl
one_turn_why n d m x k Destination Capped f g = absurd (g.0 f)
one_turn_why n d m x k Destination NotSink f g = absurd (g.0 f)
one_turn_why n d m x k Destination WrongCount f g = absurd (g.0.not_destination f)
one_turn_why n d m x k Capped Destination f g = absurd (f.0 g)
one_turn_why n d m x k Capped Capped f g = refl
one_turn_why n d m x k Capped NotSink f g = absurd (omega (arith, f.1, g.1))
one_turn_why n d m x k Capped WrongCount f g = let below = g.0.below_cap in absurd (omega (arith, f.1))
one_turn_why n d m x k NotSink Destination f g = absurd (f.0 g)
one_turn_why n d m x k NotSink Capped f g = absurd (omega (arith, f.1, g.1))
one_turn_why n d m x k NotSink NotSink f g = refl
one_turn_why n d m x k NotSink WrongCount f g = absurd (f.2 g.0.sink)
one_turn_why n d m x k WrongCount Destination f g = absurd (f.0.not_destination g)
one_turn_why n d m x k WrongCount Capped f g = let below = f.0.below_cap in absurd (omega (arith, g.1))
one_turn_why n d m x k WrongCount NotSink f g = absurd (g.2 f.0.sink)
one_turn_why n d m x k WrongCount WrongCount f g = refl
one_turn_why n d m x k NoNode other f g = absurd f
one_turn_why n d m x k NotHeld other f g = absurd f
one_turn_why n d m x k NotMoved other f g = absurd f
one_turn_why n d m x k NotCut other f g = absurd f
one_turn_why n d m x k why NoNode f g = absurd g
one_turn_why n d m x k why NotHeld f g = absurd g
one_turn_why n d m x k why NotMoved f g = absurd g
one_turn_why n d m x k why NotCut f g = absurd g

one_reply_why : (n d : ℕ) (m : Moment) (x : ℕ) (r : Reply) (why other : Why) → FailsReply n d m x r why
    → FailsReply n d m x r other → why ≡ other
one_reply_why n d m x (Turned k) why other f g = one_turn_why n d m x k why other f g
one_reply_why n d m x (Held by) why other f g = f.0 ∙ sym g.0
one_reply_why n d m x (Moved had k) why other f g = f.0 ∙ sym g.0
one_reply_why n d m x Cut why other f g = f.0 ∙ sym g.0
one_reply_why n d m x Sink why other f g = f.0 ∙ sym g.0

one_why : (n d : ℕ) (m : Moment) (e : Entry) (why other : Why) → Fails n d m e why → Fails n d m e other → why ≡ other
one_why n d m e why other (inl f) (inl g) = f.0 ∙ sym g.0
one_why n d m e why other (inl f) (inr g) = absurd (omega (arith, f.1, g.0))
one_why n d m e why other (inr f) (inl g) = absurd (omega (arith, f.0, g.1))
one_why n d m e why other (inr f) (inr g) = one_reply_why n d m e.node e.reply why other f.1 g.1

-- and so does a history
one_place : (n d : ℕ) (m : Moment) (p : List Entry) (a : Entry) (r : List Entry) (q : List Entry) (b : Entry)
    (s : List Entry) (why other : Why) → p ++ a ∷ r ≡ q ++ b ∷ s
    → IsRun n d m p → IsRun n d m q → Fails n d (after_all m p) a why → Fails n d (after_all m q) b other
    → (length p ≡ length q) × (why ≡ other)
one_place n d m [] a r [] b s why other e run_p run_q f g =
    let same : a ≡ b = cc in
    (refl, one_why n d m a why other f (rw (← same) at g))
one_place n d m [] a r (c ∷ q) b s why other e run_p run_q f g =
    let same : a ≡ c = cc in
    absurd (not_legal n d m a why f (rw (← same) at run_q.0))
one_place n d m (c ∷ p) a r [] b s why other e run_p run_q f g =
    let same : c ≡ b = cc in
    absurd (not_legal n d m b other g (rw same at run_p.0))
one_place n d m (c ∷ p) a r (h ∷ q) b s why other e run_p run_q f g =
    let same : h ≡ c = cc in
    let rest : p ++ a ∷ r ≡ q ++ b ∷ s = cc in
    let there = one_place n d (after m c) p a r q b s why other rest run_p.1
    (subst (λ (z : Entry). IsRun n d (after m z) q) same run_q.1) f
    (subst (λ (z : Entry). Fails n d (after_all (after m z) q) b other) same g) in
    (ap suc there.0, there.1)

pub one_bad : (n d : ℕ) (m : Moment) (entries : List Entry) (i j : ℕ) (why other : Why) → IsBadAt n d m entries i why
    → IsBadAt n d m entries j other → (i ≡ j) × (why ≡ other)
one_bad n d m entries i j why other a b =
    let one =
    one_place n d m a.front a.bad a.back b.front b.bad b.back why other (sym a.parted
    ∙ b.parted) a.run b.run a.fails b.fails in
    (sym a.place ∙ one.0 ∙ b.place, one.1)
