-- Where all workers are handed back, their turns are all the turns of the history.
use Rattle.std.proofs.Common.{◌≡◌, ◌≢◌, ◌⊎◌, ℕ, ◌+◌, ◌<◌, eqb, Contains, List, [], ◌∷◌, map, length, refl, sym, ap, ◌∙◌}
use Rattle.std.proofs.Common.{subst, ⊎_elim, inl, inr}
use Rattle.std.proofs.Common.{arith, sum, sum_by}
use Rattle.std.proofs.lemmas.Bool.{cases_eq}
use Rattle.std.proofs.lemmas.List.{length-map, length-replicate}
use Rattle.std.proofs.lemmas.List.Folds.{sum_by-replicate}
use Rattle.std.proofs.lemmas.List.Sums.{sum_by-cons}
use Rattle.std.specs.List.{AllByRecursion as Each, IsDistinct}
use Rattle.fr_graph.proofs.Members.{Contains-cases, Contains-head, Contains-none, Contains-tail}
use Rattle.fr_core.proofs.Pigeons.{IsDistinct-more, IsDistinct-none, distinct_length}
use Rattle.fr_core.proofs.Runs.{run_sum}
use Rattle.fr_core.specs.History.{Moment, part, turn_count}
use Rattle.fr_core.specs.Runs.{IsRunTo}
use Rattle.fr_core.specs.declared.entry.Entry.{Entry}
use Rattle.fr_round.specs.declared.view.Setup.{Setup}
use Rattle.fr_round.specs.Closing.{IsPartOf, number_and_turns}
use Rattle.fr_round.specs.Histories.{AreApart, start}
use Rattle.fr_round.specs.Knowledge.{Knowledge}
use Rattle.fr_round.proofs.Entries.{part_more, part_same}
use Rattle.fr_round.proofs.StepsKeepTheRule.{each_mapped}
use Rattle.fr_round.proofs.TurnCounts.{turn_count_cons, turn_of}

each_at : (P : ℕ → Type 0) (xs : List ℕ) (y : ℕ) → Each P xs → Contains xs y → P y
each_at P [] y a h = absurd (Contains-none y h)
each_at P (x ∷ xs) y a h = ⊎_elim (λ e. subst P e a.0) (λ r. each_at P xs y a.1 r) (Contains-cases y x xs h)

are_distinct : (ks : List ℕ) → AreApart ks → IsDistinct eqb ks
are_distinct [] a = IsDistinct-none
are_distinct (k ∷ ks) a =
    IsDistinct-more k ks (λ y h e. each_at (λ (j : ℕ). j ≢ k) ks y a.0 h (sym e)) (are_distinct ks a.1)

cases_in : (ks : List ℕ) (j : ℕ) → Contains ks j ⊎ Each (λ (k : ℕ). k ≢ j) ks
cases_in [] j = inr tt
cases_in (k ∷ ks) j = ⊎_elim
    (λ e. inl (subst (λ (z : ℕ). Contains (k ∷ ks) z) e (Contains-head k ks)))
    (λ ne. ⊎_elim (λ h. inl (Contains-tail j k ks h)) (λ a. inr (ne, a)) (cases_in ks j))
    (cases_eq k j)

-- n different numbers below n are all of them
all_in : (n : ℕ) (ks : List ℕ) → AreApart ks → Each (λ (k : ℕ). k < n) ks → length ks ≡ n → (j : ℕ) → j < n
    → Contains ks j
all_in n ks apart below long j lt = ⊎_elim (λ h. h)
    (λ a. absurd (omega (
      arith,
      long,
      distinct_length n (j
          ∷ ks) (IsDistinct-more j ks (λ y h e. each_at (λ (k : ℕ). k ≢ j) ks y a h (sym e)) (are_distinct ks apart))
          (λ q h. ⊎_elim (λ e. omega (arith, e, lt)) (λ r. each_at (λ (k : ℕ). k
          < n) ks q below r) (Contains-cases q j ks h)),
    )))
    (cases_in ks j)

abbrev part_turns : List Entry → ℕ → ℕ
part_turns h k = turn_count (part k h)

-- an entry counts for no worker but its own
same_turns : (ks : List ℕ) (e : Entry) (h : List Entry) → Each (λ (k : ℕ). k ≢ e.worker) ks
    → sum_by (part_turns (e ∷ h)) ks ≡ sum_by (part_turns h) ks
same_turns [] e h a = refl
same_turns (k ∷ ks) e h a = omega (
  arith,
  sum_by-cons (part_turns (e ∷ h)) k ks,
  sum_by-cons (part_turns h) k ks,
  ap (λ (l : List Entry). turn_count l) (part_same k e h (λ z. a.0 (sym z))),
  same_turns ks e h a.1,
)

one_more : (ks : List ℕ) (e : Entry) (h : List Entry) → AreApart ks → Contains ks e.worker
    → sum_by (part_turns (e ∷ h)) ks ≡ turn_of e.reply + sum_by (part_turns h) ks
one_more [] e h apart c = absurd (Contains-none e.worker c)
one_more (k ∷ ks) e h apart c =
    let cons = sum_by-cons (part_turns (e ∷ h)) k ks in
    let cons' = sum_by-cons (part_turns h) k ks in
    ⊎_elim
    (λ is. omega (
      arith,
      cons,
      cons',
      ap (λ (l : List Entry). turn_count l) (part_more k e h is),
      turn_count_cons e (part k h),
      same_turns ks e h (subst (λ (z : ℕ). Each (λ (j : ℕ). j ≢ z) ks) (sym is) apart.0),
    ))
    (λ ne. omega (
      arith,
      cons,
      cons',
      ap (λ (l : List Entry). turn_count l) (part_same k e h ne),
      one_more ks e h apart.1 (⊎_elim (λ is. absurd (ne (sym is))) (λ r. r) (Contains-cases e.worker k ks c)),
    ))
    (cases_eq e.worker k)

no_turns : (ks : List ℕ) → sum_by (part_turns []) ks ≡ 0
no_turns [] = refl
no_turns (k ∷ ks) = omega (arith, sum_by-cons (part_turns []) k ks, no_turns ks)

-- different workers that have all the entries have all the turns
sum_of_parts : (ks : List ℕ) (h : List Entry) → AreApart ks → Each (λ (e : Entry). Contains ks e.worker) h
    → sum_by (part_turns h) ks ≡ turn_count h
sum_of_parts ks [] apart a = no_turns ks
sum_of_parts ks (e ∷ h) apart a =
    omega (arith, one_more ks e h apart a.0, sum_of_parts ks h apart a.1, turn_count_cons e h)

each_in_all : (n : ℕ) (ks : List ℕ) (h : List Entry) → ((j : ℕ) → j < n → Contains ks j)
    → Each (λ (e : Entry). e.worker < n) h → Each (λ (e : Entry). Contains ks e.worker) h
each_in_all n ks [] f a = tt
each_in_all n ks (e ∷ h) f a = (f e.worker a.0, each_in_all n ks h f a.1)

-- the turns that are answered are those of the parts
sum_of_pairs : (h : List Entry) (workers : List Knowledge) → Each (IsPartOf h) workers
    → sum_by (λ (p : ℕ × ℕ). p.1) (map number_and_turns workers)
    ≡ sum_by (part_turns h) (map (λ (k : Knowledge). k.number) workers)
sum_of_pairs h [] a = refl
sum_of_pairs h (k ∷ ks) a = omega (
  arith,
  sum_by-cons (λ (p : ℕ × ℕ). p.1) (number_and_turns k) (map number_and_turns ks),
  sum_by-cons (part_turns h) k.number (map (λ (k : Knowledge). k.number) ks),
  ap (λ (l : List Entry). turn_count l) a.0.own,
  sum_of_pairs h ks a.1,
)

pub all_handed_back : (b : Setup) (h : List Entry) (counts : List ℕ) (workers : List Knowledge)
    → IsRunTo b.nodes b.dest b.links h counts → Each (λ (e : Entry). e.worker < b.workers) h → Each (IsPartOf h) workers
    → AreApart (map (λ (k : Knowledge). k.number) workers) → Each (λ (k : Knowledge). k.number < b.workers) workers
    → length workers ≡ b.workers
    → sum_by (λ (p : ℕ × ℕ). p.1) (map number_and_turns workers) ≡ sum counts
all_handed_back b h counts workers run opened parts apart numbered long =
    let ks : List ℕ = map (λ (k : Knowledge). k.number) workers in
    let all =
    all_in b.workers ks apart (each_mapped (λ (k : Knowledge). k.number < b.workers) (λ (k : ℕ). k < b.workers)
    (λ (k : Knowledge). k.number) (λ k lt. lt) workers numbered) (length-map workers (λ (k : Knowledge). k.number)
    ∙ long) in
    omega (
      arith,
      sum_of_pairs h workers parts,
      sum_of_parts ks h apart (each_in_all b.workers ks h all opened),
      run_sum b.nodes b.dest (start b) h (length-replicate b.nodes 0) run.run,
      sum_by-replicate (λ (y : ℕ). y) b.nodes 0,
      ap (λ (m : Moment). sum m.counts) run.ends,
    )
