-- Executions: the list of calls only grows, each call has its place there while it runs, and so a call that ended before
-- another one began comes first.
use Rattle.std.proofs.Common.{◌≡◌, ℕ, zero, suc, ◌+◌, ◌-◌, ◌<◌, ◌≤◌, ◌⊎◌, ⊎_elim, List, [], ◌∷◌, ◌++◌, append_assoc}
use Rattle.std.proofs.Common.{append-nil, sym, ap, ◌∙◌, arith, subst, eqb, get_or, inl, inr, length, length-append}
use Rattle.std.proofs.Common.{refl, Contains}
use Rattle.std.proofs.lemmas.Bool.{cases_eq}
use Rattle.std.proofs.lemmas.List.{append_cancel_left}
use Rattle.std.proofs.lemmas.List.Elements.{filter-append}
use Rattle.fr_core.specs.History.{part}
use Rattle.fr_core.specs.declared.entry.Entry.{Entry}
use Rattle.fr_round.proofs.Entries.{part_mine, part_other}
use Rattle.fr_round.proofs.Standing.{one_history}
use Rattle.fr_round.specs.Histories.{StartsWith}
use Rattle.fr_round.specs.Laws.{IsGrown, KnowsPartOf, StandsBehind, StepsGrowTheList, workers_of}
use Rattle.fr_round.specs.declared.view.Setup.{Setup}
use Rattle.fr_round.specs.declared.view.View.{View}
use Rattle.fr_laws.proofs.QuietEnds.{each_at}
use Rattle.fr_laws.specs.Linear.{CallIn, CallsAreLinearizable, Execution, IsDecided, Moment, Next}
use Rattle.fr_laws.specs.Linear.{own_load, exchange, along, against, look_begins, look_ends, catches_up, numbers}
use Rattle.fr_laws.specs.Linear.{closing_comes, takes_back, hands_on, receives}

-- the list after a step
abbrev GrowsBy : List Entry → List Entry → Type 0
GrowsBy before after = (after ≡ before) ⊎ ((e : Entry) × (after ≡ before ++ e ∷ []))

module _ (b : Setup) (law : StepsGrowTheList b) (p : Moment b) where
  abbrev slots : ℕ
  slots = length p.state.homes

  by_call : (v w : View) (after : List Entry) → IsGrown p.has.0.history v w after → GrowsBy p.list after
  by_call v w after grown = ⊎_elim
      (λ same. inl (same.0 ∙ p.has.1))
      (λ added. inr (added.0, added.2 ∙ ap (λ l. l ++ added.0 ∷ []) p.has.1))
      grown

  grows : (q : Moment b) → Next b law p q → GrowsBy p.list q.list
  grows q (own_load id me x worker inside here) =
      let g = law.calls.own_load slots id me x worker inside p.state p.has.0 refl here.seat here.in_range in
      by_call me.0 g.0 q.list g.4
  grows q (exchange id me x c worker turnable below seen met here) =
      let g =
      law.calls.exchange slots id me x c worker turnable below seen met p.state p.has.0 refl here.seat here.in_range in
      by_call me.0 g.0 q.list g.4
  grows q (along id me x c w in_call points here) =
      let g = law.calls.along slots id me x c w in_call points p.state p.has.0 refl here.seat here.in_range in
      by_call me.0 g.0 q.list g.4
  grows q (against id me x c w in_call points here) =
      let g = law.calls.against slots id me x c w in_call points p.state p.has.0 refl here.seat here.in_range in
      by_call me.0 g.0 q.list g.4
  grows q (look_begins id me x worker here) =
      let g = law.calls.look_begins slots id me x worker p.state p.has.0 refl here.seat here.in_range in
      by_call me.0 g.0 q.list g.4
  grows q (look_ends id me x c in_call lookable met here) =
      let g = law.calls.look_ends slots id me x c in_call lookable met p.state p.has.0 refl here.seat here.in_range in
      by_call me.0 g.0 q.list g.4
  grows q (catches_up id me x worker here) =
      let g = law.calls.catches_up slots id me x worker p.state p.has.0 refl here.seat here.in_range in
      by_call me.0 g.0 q.list g.4
  grows q (numbers id v opens idle not_closing more here) = inl refl
  grows q (closing_comes x v setup in_range) = inl refl
  grows q (takes_back id v other w closes idle not_opening works two) = inl refl
  grows q (hands_on id v here) = inl refl
  grows q (receives id v other w two) = inl refl

module _ (b : Setup) (law : StepsGrowTheList b) (x : Execution b law) where
  abbrev list : ℕ → List Entry
  list t = (x.at t).list

  -- the list some steps later begins with the list now
  list_grows : (t more : ℕ) → StartsWith (list (t + more)) (list t)
  list_grows t zero = ([], ap list (omega arith) ∙ sym (append-nil (list t)))
  list_grows t (suc more) =
      let before = list_grows t more in
      let at : list (t + suc more) ≡ list ((t + more) + 1) = ap list (omega arith) in
      ⊎_elim
      (λ same. (before.0, at ∙ (same ∙ before.1)))
      (λ (added : (e : Entry) × (list ((t + more) + 1) ≡ list (t + more) ++ e ∷ [])). (
        before.0 ++ added.0 ∷ [],
        at ∙ (added.1 ∙ (ap (λ l. l ++ added.0 ∷ []) before.1 ∙ append_assoc (list t) before.0 (added.0 ∷ []))),
      ))
      (grows b law (x.at (t + more)) (x.at ((t + more) + 1)) (x.steps (t + more)))

  list_begins : (some later : ℕ) → some ≤ later → StartsWith (list later) (list some)
  list_begins some later le =
      subst (λ (t : ℕ). StartsWith (list t) (list some)) (omega arith) (list_grows some (later - some))

  -- the list explains the state, and so a worker's part of it is what the worker knows of its own calls
  explained : (t : ℕ) → StandsBehind b (x.at t).state (list t)
  explained t =
      let has = (x.at t).has in subst (StandsBehind b (x.at t).state) has.1 (one_history b (x.at t).state has.0)

  own_at : (t number : ℕ) (known : List Entry) → Contains (workers_of (x.at t).state.views) (number, known)
      → part number (list t) ≡ part number known
  own_at t number known found =
      (each_at (KnowsPartOf (list t)) (workers_of (x.at t).state.views) (number, known) (explained t).parts found).own

  -- where a part gains one entry, a step between adds it
  part_adds : (number s k : ℕ) (e : Entry) → part number (list (s + k)) ≡ part number (list s) ++ e ∷ []
      → (t : ℕ) × (s ≤ t) × (t < s + k) × (list (t + 1) ≡ list t ++ e ∷ [])
  part_adds number s zero e is =
      let here : list (s + 0) ≡ list s = ap list (omega arith) in
      let same : length (part number (list s)) ≡ length (part number (list s) ++ e ∷ []) =
      ap length (sym (ap (part number) here) ∙ is) in
      absurd (omega (arith, same, length-append (part number (list s)) (e ∷ [])))
  part_adds number s (suc k) e is =
      let at : list (s + suc k) ≡ list ((s + 1) + k) = ap list (omega arith) in
      let then : part number (list ((s + 1) + k)) ≡ part number (list s) ++ e ∷ [] = sym (ap (part number) at) ∙ is in
      let on : (part number (list (s + 1)) ≡ part number (list s))
      → (t : ℕ) × (s ≤ t) × (t < s + suc k) × (list (t + 1) ≡ list t ++ e ∷ []) =
      λ same. let found = part_adds number (s + 1) k e (then ∙ ap (λ (l : List Entry). l ++ e ∷ []) (sym same)) in
      (found.0, omega (arith, found.1), omega (arith, found.2), found.3) in
      ⊎_elim
      (λ same. on (ap (part number) same))
      (λ (added : (f : Entry) × (list (s + 1) ≡ list s ++ f ∷ [])). ⊎_elim
      (λ mine.
      let later = list_grows (s + 1) k in
      let now : part number (list (s + 1)) ≡ part number (list s) ++ added.0 ∷ [] =
      ap (part number) added.1 ∙ part_mine number (list s) added.0 mine in
      let end : part number (list ((s + 1) + k)) ≡ part number (list (s + 1)) ++ part number later.0 =
      ap (part number) later.1 ∙ filter-append (λ (e : Entry). eqb e.worker number) (list (s + 1)) later.0 in
      let both : part number (list s) ++ (added.0 ∷ part number later.0) ≡ part number (list s) ++ e ∷ [] =
      sym (append_assoc (part number (list s)) (added.0 ∷ []) (part number later.0))
      ∙ (ap (λ (l : List Entry). l ++ part number later.0) (sym now) ∙ (sym end ∙ then)) in
      let one : added.0 ≡ e = ap (λ (l : List Entry). get_or l 0 e)
      (append_cancel_left (part number (list s)) (added.0 ∷ part number later.0) (e ∷ []) both) in
      (s, omega arith, omega arith, added.1 ∙ ap (λ (f : Entry). list s ++ f ∷ []) one))
      (λ other. on (ap (part number) added.1 ∙ part_other number (list s) added.0 other))
      (cases_eq added.0.worker number))
      (grows b law (x.at s) (x.at (s + 1)) (x.steps s))

  decided : (c : CallIn b law x) → IsDecided b law x c
  decided c =
      let more : ℕ = c.ended - c.began in
      let at : list (c.began + more) ≡ list c.ended = ap list (omega (arith, c.forth)) in
      let was = own_at c.began c.number c.before c.knew in
      let is = own_at c.ended c.number c.after c.knows in
      let found = part_adds c.number c.began more c.entry
      (ap (part c.number) at ∙ (is ∙ (c.own ∙ ap (λ (l : List Entry). l ++ c.entry ∷ []) (sym was)))) in
      (found.0, found.1, omega (arith, found.2, c.forth), found.3)

  in_time : (c d : CallIn b law x) → c.ended ≤ d.began
      → (between : List Entry) × (list ((decided d).0 + 1) ≡ (list ((decided c).0 + 1) ++ between) ++ d.entry ∷ [])
  in_time c d le =
      let first = decided c in
      let second = decided d in
      let after = list_begins (first.0 + 1) second.0 (omega (arith, first.2, second.1, le)) in
      (after.0, second.3 ∙ ap (λ l. l ++ d.entry ∷ []) after.1)

pub calls_are_linearizable : CallsAreLinearizable
calls_are_linearizable b law x =
    record { explains = explained b law x; decided = decided b law x; order = in_time b law x }
