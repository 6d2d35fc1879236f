-- Where a run ends, by the logs alone.
use Rattle.std.proofs.Common.{◌≡◌, ◌≢◌, ◌∙◌, ◌+◌, ◌<◌, ◌∷◌, [], ℕ, zero, suc, List, ap, arith, cond, length, ltb}
use Rattle.std.proofs.Common.{refl, sum_by, sym, ⊎_elim}
use Rattle.std.proofs.lemmas.Bool.{cases_eq, le-ltb, lt-ltb}
use Rattle.std.proofs.lemmas.Bool.Decides.{nat_tests}
use Rattle.std.proofs.lemmas.List.{ext_get_or}
use Rattle.std.proofs.lemmas.List.Sums.{sum_by-cons}
use Rattle.std.proofs.lemmas.Option.{slice_get-get_or}
use Rattle.std.specs.List.{AllByRecursion as Each}
use Rattle.std.specs.Prelude.{Bool, get_or, ◌&&◌, ◌==◌}
use Rattle.fr_core.specs.History.{is_turned, part, turn_count_of}
use Rattle.fr_core.specs.declared.entry.Entry.{Entry}
use Rattle.fr_round.proofs.Entries.{part_more, part_same}
use Rattle.fr_logs.specs.Laws.{LogsShowTheEnd}

-- a sum over the entries of the workers below m
module _ (f : Entry → ℕ) where
  abbrev up_to : ℕ → Entry → ℕ
  up_to m e = cond (ltb e.worker m) (f e) 0

  counted : (m : ℕ) (e : Entry) → e.worker < m → up_to m e ≡ f e
  counted m e below = ap (λ (b : Bool). cond b (f e) 0) (lt-ltb e.worker m below)

  not_counted : (m : ℕ) (e : Entry) → m < e.worker + 1 → up_to m e ≡ 0
  not_counted m e past = ap (λ (b : Bool). cond b (f e) 0) (le-ltb e.worker m (omega (arith, past)))

  sum_of_none : (h : List Entry) → sum_by (up_to 0) h ≡ 0
  sum_of_none [] = refl
  sum_of_none (e ∷ h) = omega (arith, sum_by-cons (up_to 0) e h, not_counted 0 e (omega arith), sum_of_none h)

  same_test : (m : ℕ) (e : Entry) → e.worker ≢ m → up_to (suc m) e ≡ up_to m e
  same_test m e other = ap (λ (b : Bool). cond b (f e) 0) (same e.worker m other)
    where
      same : (w m : ℕ) → w ≢ m → ltb w (suc m) ≡ ltb w m
      same w m other = grind (arith, nat_tests)

  sum_of_more : (m : ℕ) (h : List Entry) → sum_by (up_to (suc m)) h ≡ sum_by (up_to m) h + sum_by f (part m h)
  sum_of_more m [] = refl
  sum_of_more m (e ∷ h) =
      let with_it = sum_by-cons (up_to (suc m)) e h in
      let without = sum_by-cons (up_to m) e h in
      let rest = sum_of_more m h in
      ⊎_elim
      (λ own. omega (
        arith,
        with_it,
        without,
        rest,
        counted (suc m) e (omega (arith, own)),
        not_counted m e (omega (arith, own)),
        ap (λ (l : List Entry). sum_by f l) (part_more m e h own),
        sum_by-cons f e (part m h),
      ))
      (λ other. omega (
        arith,
        with_it,
        without,
        rest,
        same_test m e other,
        ap (λ (l : List Entry). sum_by f l)
            (part_same m e h other),
      ))
      (cases_eq e.worker m)

  sum_of_all : (m : ℕ) (h : List Entry) → Each (λ (e : Entry). e.worker < m) h → sum_by (up_to m) h ≡ sum_by f h
  sum_of_all m [] a = refl
  sum_of_all m (e ∷ h) a = omega (
    arith,
    sum_by-cons
        (up_to m) e h,
    sum_by-cons f e h,
    counted m e a.0,
    sum_of_all m h a.1,
  )

  sum_of_parts : (m : ℕ) (h g : List Entry) → ((k : ℕ) → k < m → part k h ≡ part k g)
      → sum_by (up_to m) h ≡ sum_by (up_to m) g
  sum_of_parts zero h g same = sum_of_none h ∙ sym (sum_of_none g)
  sum_of_parts (suc m) h g same = omega (
    arith,
    sum_of_more m h,
    sum_of_more m g,
    ap (λ (l : List Entry). sum_by f l) (same m (omega arith)),
    sum_of_parts m h g (λ k below. same k (omega (arith, below))),
  )

pub logs_show_the_end : LogsShowTheEnd
logs_show_the_end n d first counts others logs r s =
    let m = length logs in
    let same : (k : ℕ) → k < m → part k r.history ≡ part k s.history = λ k below.
    let e = slice_get-get_or logs k [] below in
    sym (r.parts k (get_or logs k []) e) ∙ s.parts k (get_or logs k []) e in
    let turns : (x : ℕ) → turn_count_of x r.history ≡ turn_count_of x s.history = λ x.
    let f : Entry → ℕ = λ (e : Entry). cond (is_turned e.reply && (e.node == x)) 1 0 in
    sym (sum_of_all f m r.history r.whole)
    ∙ (sum_of_parts f m r.history s.history same ∙ sum_of_all f m s.history s.whole) in
    ext_get_or 0 counts others (r.run.lawful.one_each ∙ sym s.run.lawful.one_each)
    (λ x below. omega (arith, r.run.turns x, s.run.turns x, turns x))
