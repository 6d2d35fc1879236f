-- Whose turns they are: those of the workers are the turns of a run.
use Rattle.std.proofs.Common.{List, ap, arith, length-append, map, refl, replicate, subst, sum, sum_by, sym, ℕ}
use Rattle.std.proofs.Common.{[], length, suc, ◌++◌, ◌+◌, ◌*◌, ◌<◌, ◌≤◌, ◌∙◌, ◌∷◌, ◌≡◌, ◌≢◌}
use Rattle.std.proofs.lemmas.List.{length-map, map-append}
use Rattle.std.proofs.lemmas.List.Folds.{sum_by-replicate}
use Rattle.std.proofs.lemmas.List.Sums.{count_by-le-length, sum_by-cons}
use Rattle.std.proofs.lemmas.Simd.{map-map}
use Rattle.std.specs.List.{AllByRecursion as Each}
use Rattle.fr_core.proofs.Finishing.{zeros_lawful}
use Rattle.fr_core.proofs.Runs.{run_to}
use Rattle.fr_core.specs.Runs.{IsRunTo}
use Rattle.fr_core.specs.History.{is_turned, part, turn_count}
use Rattle.fr_core.specs.declared.entry.Entry.{Entry}
use Rattle.fr_crew.specs.Crews.{IsDone, Shift, shift}
use Rattle.fr_crew.specs.Gates.{EachBefore}
use Rattle.fr_crew.specs.Settlements.{AreByWorkers, AreCallsWithin, AreNumbered}
use Rattle.fr_crew.specs.declared.plan.Plan.{Plan}
use Rattle.fr_graph.specs.Links.{IsNet}
use Rattle.fr_round.proofs.StepsKeepTheRule.{each_mapped, each_snoc, each_weaker}
use Rattle.fr_round.proofs.Seating.{apart_append}
use Rattle.fr_round.specs.Closing.{Closes, IsPartOf, number_and_turns}
use Rattle.fr_round.specs.Histories.{AreApart}
use Rattle.fr_round.specs.Knowledge.{Knowledge, OpenRound}
use Rattle.fr_round.specs.declared.view.Setup.{Setup}

abbrev number : ℕ × ℕ → ℕ
number p = p.0

abbrev turns : ℕ × ℕ → ℕ
turns p = p.1

-- with the pair of one worker more
pub numbered_next : (k t : ℕ) (turned : List (ℕ × ℕ)) → AreNumbered k turned
    → AreNumbered (k + 1) (turned ++ (k, t) ∷ [])
numbered_next k t turned are = record {
  one_each = omega (arith, length-append turned ((k, t) ∷ []), are.one_each);
  apart = subst AreApart (sym (map-append number turned ((k, t) ∷ [])))
      (apart_append (map number turned) (k ∷ []) are.apart (tt, tt)
      (each_mapped (λ (p : ℕ × ℕ). p.0 < k) (λ (j : ℕ). Each (λ (i : ℕ). i ≢ j) (k ∷ [])) number
      (λ p l. ((λ e. omega (arith, l, e)), tt)) turned are.in_range));
  in_range = each_snoc (λ (p : ℕ × ℕ). p.0 < k + 1) turned (k, t)
      (each_weaker (λ (p : ℕ × ℕ). p.0 < k) (λ (p : ℕ × ℕ). p.0 < k + 1) (λ p l. omega (arith, l)) turned are.in_range)
      (omega arith);
}

none_add : (turned : List (ℕ × ℕ)) → Each (λ (p : ℕ × ℕ). p.1 ≡ 0) turned → sum_by turns turned ≡ 0
none_add [] none = refl
none_add (p ∷ ps) none = omega (arith, sum_by-cons turns p ps, none.0, none_add ps none.1)

pub sum_none : (n : ℕ) → sum (replicate n 0) ≡ 0
sum_none n = omega (arith, sum_by-replicate (λ (y : ℕ). y) n 0)

-- no calls are few enough
none_called : (budget : ℕ) (passed : ℕ → ℕ → Type 0) (turned : List (ℕ × ℕ))
    → Each (λ (p : ℕ × ℕ). AreCallsWithin budget passed [] p.0) turned
none_called budget passed [] = tt
none_called budget passed (p ∷ ps) = (
  record { few = omega arith; each_passed = λ k one before. absurd (omega (arith, one, before)) },
  none_called budget passed ps,
)

-- where no worker has turned a node
pub none_turned : (n d : ℕ) (first : List (ℕ × ℕ)) (plan : Plan) (passed : ℕ → ℕ → Type 0) (turned : List (ℕ × ℕ))
    → IsNet n first → AreNumbered plan.workers turned → Each (λ (p : ℕ × ℕ). p.1 ≡ 0) turned
    → AreByWorkers n d first plan passed (replicate n 0) turned
none_turned n d first plan passed turned net numbered none = record {
  history = [];
  of_workers = tt;
  run = run_to n d first net [] (replicate n 0) tt refl (zeros_lawful n d first);
  numbered = numbered;
  calls = none_called plan.budget passed turned;
  own = none;
  total = none_add turned none ∙ sym (sum_none n);
}

-- the pairs of a closing are those of its workers
closed_numbered : (r : OpenRound) (workers : List Knowledge) (counts : List ℕ) (turned : List (ℕ × ℕ))
    → Closes r workers counts turned → length workers ≡ r.setup.workers → AreNumbered r.setup.workers turned
closed_numbered r workers counts turned closes all = subst (AreNumbered r.setup.workers) (sym closes.pairs) (record {
  one_each = length-map workers number_and_turns ∙ all;
  apart = subst AreApart (sym (map-map number number_and_turns workers)) closes.apart;
  in_range = each_mapped (λ (k : Knowledge). k.number < r.setup.workers) (λ (p : ℕ × ℕ). p.0 < r.setup.workers)
      number_and_turns (λ k l. l) workers closes.numbered;
})

module _ {G : Type 0} (passed : G → ℕ → ℕ → Type 0) where
  -- the calls of each worker that is done, in the history of the closing
  done_within : (s : Shift G) (history : List Entry) (workers : List Knowledge) → Each (IsPartOf history) workers
      → Each (IsDone passed s) workers
      → Each (λ (p : ℕ × ℕ). AreCallsWithin s.budget (passed s.gate) history p.0) (map number_and_turns workers)
  done_within s history [] parts done = tt
  done_within s history (k ∷ ks) parts done =
      let own : part k.number history ≡ part k.number k.known = parts.0.own in (
        record {
          few = subst (λ (h : List Entry). length h ≤ s.budget) (sym own) done.0.few;
          each_passed =
              subst (λ (h : List Entry). EachBefore (length h
              + 1) (passed s.gate k.number)) (sym own) done.0.each_passed;
        },
        done_within s history ks parts.1 done.1,
      )

  -- when a round is closed that was opened with this setup
  pub closed_turned : (opened r : OpenRound) (asked : Setup) (plan : Plan) (gate : G) (workers : List Knowledge)
      (counts : List ℕ) (turned : List (ℕ × ℕ)) → opened.setup ≡ asked → asked.workers ≡ plan.workers → r ≡ opened
      → Closes r workers counts turned → Each (IsDone passed (shift opened plan.budget gate)) workers
      → length workers ≡ r.setup.workers
      → AreByWorkers asked.nodes asked.dest asked.links plan (passed gate) counts turned
  closed_turned opened r asked plan gate workers counts turned of planned same closes done all =
      let IsOwn : ℕ × ℕ → Type 0 = λ p. p.1 ≡ turn_count (part p.0 closes.history) in
      let Within : ℕ × ℕ → Type 0 = λ p. AreCallsWithin plan.budget (passed gate) closes.history p.0 in
      let setup : r.setup ≡ asked = ap (λ (o : OpenRound). o.setup) same ∙ of in
      let as_many : r.setup.workers ≡ plan.workers = ap (λ (b : Setup). b.workers) setup ∙ planned in
      record {
        history = closes.history;
        of_workers = subst (λ (k : ℕ). Each (λ (e : Entry). e.worker < k) closes.history) as_many closes.opened;
        run = subst (λ (b : Setup). IsRunTo b.nodes b.dest b.links closes.history counts) setup closes.run;
        numbered = subst (λ (k : ℕ). AreNumbered k turned) as_many (closed_numbered r workers counts turned closes all);
        calls = subst (Each Within) (sym closes.pairs)
            (done_within (shift opened plan.budget gate) closes.history workers closes.parts done);
        own = subst (Each IsOwn) (sym closes.pairs) (each_mapped (IsPartOf closes.history) IsOwn number_and_turns
            (λ k is. sym (ap (λ (h : List Entry). turn_count h) is.own)) workers closes.parts);
        total = closes.all_back all;
      }

-- a turn is a call
turns_within : (m : ℕ) (passed : ℕ → ℕ → Type 0) (history : List Entry) (turned : List (ℕ × ℕ))
    → Each (λ (p : ℕ × ℕ). p.1 ≡ turn_count (part p.0 history)) turned
    → Each (λ (p : ℕ × ℕ). AreCallsWithin m passed history p.0) turned → sum_by turns turned ≤ length turned * m
turns_within m passed history [] own calls = omega arith
turns_within m passed history (p ∷ ps) own calls =
    let one : p.1 ≤ m = omega (
      arith,
      own.0,
      calls.0.few,
      count_by-le-length (λ (e : Entry). is_turned e.reply) (part p.0 history),
    ) in
    let rest = turns_within m passed history ps own.1 calls.1 in
    subst (λ (n : ℕ). n ≤ suc (length ps) * m) (sym (sum_by-cons turns p ps)) (omega (arith, one, rest))

-- no more turns than all calls that the workers may make
pub within_budget : (n d : ℕ) (first : List (ℕ × ℕ)) (plan : Plan) (passed : ℕ → ℕ → Type 0) (counts : List ℕ)
    (turned : List (ℕ × ℕ)) → AreByWorkers n d first plan passed counts turned
    → sum_by turns turned ≤ plan.workers * plan.budget
within_budget n d first plan passed counts turned are =
    subst (λ (k : ℕ). sum_by turns turned ≤ k * plan.budget) are.numbered.one_each
    (turns_within plan.budget passed are.history turned are.own are.calls)
