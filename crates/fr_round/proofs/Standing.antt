-- One history stands behind the words and behind what all workers know.
use Rattle.std.proofs.Common.{◌≡◌, ◌≢◌, ℕ, zero, suc, ◌+◌, ◌<◌, ◌≤◌, Bool, true, false, List, [], ◌∷◌, ◌++◌, map}
use Rattle.std.proofs.Common.{replicate, refl, sym, ap, subst}
use Rattle.std.proofs.Common.{arith, true≢false, ◌∙◌}
use Rattle.std.specs.Prelude.{◌==◌, if◌then◌else◌}
use Rattle.std.specs.List.{AllByRecursion as Each}
use mathlib.Core.List.{map-append}
use mathlib.Core.Option.{some, none}
use prog.Atomic.{either}
use lib.ListN.{get_elem?}
use Rattle.atomic_table.specs.Seated.{TableId}
use Rattle.atomic_table.specs.Table.{opening, step}
use Rattle.fr_graph.specs.Links.{IsNet}
use Rattle.fr_core.proofs.Finishing.{zeros_lawful}
use Rattle.fr_core.proofs.Runs.{run_to}
use Rattle.fr_core.specs.declared.entry.Entry.{Entry}
use Rattle.fr_round.specs.declared.view.Setup.{Setup}
use Rattle.fr_round.specs.declared.view.View.{View}
use Rattle.fr_round.specs.Histories.{AreApart, moment}
use Rattle.fr_round.specs.Laws.{CallSteps, SeatSteps, EveryStepGrowsTheList, EveryStepKeepsTheRule, Grows, KnowsPartOf}
use Rattle.fr_round.specs.Laws.{OneHistoryStandsBehindAll, NoOtherStateIsFirst, RuleHoldsAtFirst, first_state}
use Rattle.fr_round.specs.Laws.{workers_at, workers_of}
use Rattle.fr_round.specs.Opening.{HasNotBegun, KnowsNothing}
use Rattle.fr_round.specs.Knowledge.{Knowledge, OpenRound, new_worker, new_workers}
use Rattle.fr_round.specs.Rule.{HasList, IsTaken, ViewFits, closing_view, opening_view}
use Rattle.fr_round.specs.Steps.{caught_up, exchange_made, look_begun, look_ended, neighbour_loaded, own_loaded}
use Rattle.fr_round.proofs.Gathering.{some_run}
use Rattle.fr_round.proofs.StepsKeepTheRule.{allowed, begins_look, catches_up, each_append, each_mapped, each_weaker}
use Rattle.fr_round.proofs.StepsKeepTheRule.{ends_look_at, exchanges_at, loads_against_at, loads_along_at, loads_own}
use Rattle.fr_round.proofs.Seating.{apart_append, enters, first_keeps, hands_on, joins, kept_enter, kept_join}
use Rattle.fr_round.proofs.Seating.{kept_split, receives, splits}

abbrev numbers : List (ℕ × List Entry) → List ℕ
numbers ws = map (λ (w : ℕ × List Entry). w.0) ws

each_of_view : (P : ℕ × List Entry → Type 0) (works closes : Bool) (w : ℕ × List Entry) (taken : List (ℕ × List Entry))
    → (works ≡ true → P w) → (closes ≡ true → Each P taken)
    → Each P ((if works then w ∷ [] else []) ++ (if closes then taken else []))
each_of_view P true true w taken own others = (own refl, others refl)
each_of_view P true false w taken own others = (own refl, tt)
each_of_view P false true w taken own others = others refl
each_of_view P false false w taken own others = tt

apart_of_view : (works closes : Bool) (w : ℕ × List Entry) (taken : List (ℕ × List Entry))
    → (works ≡ true → closes ≡ false)
    → (closes ≡ true → AreApart (numbers taken))
    → AreApart (numbers ((if works then w ∷ [] else []) ++ (if closes then taken else [])))
apart_of_view true true w taken one apart = absurd (true≢false (one refl))
apart_of_view true false w taken one apart = (tt, tt)
apart_of_view false true w taken one apart = apart refl
apart_of_view false false w taken one apart = tt

-- a worker that the rule allows at seat i or behind it
record IsSeatedFrom (next : ℕ) (seat_of : ℕ → ℕ) (h : List Entry) (i : ℕ) (w : ℕ × List Entry) : Type 0 where
  knows : KnowsPartOf h w
  numbered : w.0 < next
  placed : i ≤ seat_of w.0

module _ (b : Setup) (next : ℕ) (seat_of : ℕ → ℕ) (at : ℕ) (h : List Entry) (words : List ℕ) where
  -- the workers at one seat
  here : (j : ℕ) (v : View) → ViewFits b next seat_of at h words j v
      → Each (IsTaken next seat_of j h) (workers_at v) × AreApart (numbers (workers_at v))
  here j v f = (
    each_of_view (IsTaken next seat_of j h) v.works v.closes (v.number, v.known) v.taken
        (λ works. let w = f.worker works in record {
          begins = f.begins;
          own = w.own;
          placed = w.placed;
          numbered = w.numbered;
        })
        (λ closes. (f.closing closes).taken),
    apart_of_view v.works v.closes (v.number, v.known) v.taken (λ works. (f.worker works).not_closing)
        (λ closes. (f.closing closes).apart),
  )

  -- the workers at the seats from seat i on
  from : (views : List View) (i : ℕ)
      → ((j : ℕ) (v : View) → get_elem? views j ≡ some v → ViewFits b next seat_of at h words (i + j) v)
      → Each (IsSeatedFrom next seat_of h i) (workers_of views) × AreApart (numbers (workers_of views))
  from [] i fits = (tt, tt)
  from (v ∷ vs) i fits =
      let one = here (i + 0) v (fits 0 v refl) in
      let others = from vs (i + 1) (λ j u e. let same : i + suc j ≡ (i + 1) + j = omega arith in
      subst (λ (k : ℕ). ViewFits b next seat_of at h words k u) same (fits (suc j) u e)) in (
        each_append (IsSeatedFrom next seat_of h i) (workers_at v) (workers_of vs)
            (each_weaker (IsTaken next seat_of (i + 0) h) (IsSeatedFrom next seat_of h i)
            (λ w t. record {
              knows = record { begins = t.begins; own = t.own };
              numbered = t.numbered;
              placed = let p =
                  t.placed in omega arith;
            }) (workers_at v) one.0)
            (each_weaker (IsSeatedFrom next seat_of h (i + 1)) (IsSeatedFrom next seat_of h i)
            (λ w t. record { knows = t.knows; numbered = t.numbered; placed = let p = t.placed in omega arith })
            (workers_of vs) others.0),
        subst AreApart (sym (map-append (λ (w : ℕ × List Entry). w.0) (workers_at v) (workers_of vs)))
            (apart_append (numbers (workers_at v)) (numbers (workers_of vs)) one.1 others.1
            (each_mapped (IsTaken next seat_of (i
            + 0) h) (λ (k : ℕ). Each (λ (j : ℕ). j ≢ k) (numbers (workers_of vs))) (λ (w : ℕ × List Entry). w.0)
            (λ w t. each_mapped (IsSeatedFrom next seat_of h (i + 1)) (λ (j : ℕ). j ≢ w.0) (λ (u : ℕ × List Entry). u.0)
            (λ u q is. let same : seat_of u.0
            ≡ seat_of w.0 = ap seat_of is in let p = t.placed in let past = q.placed in
            absurd (omega arith)) (workers_of vs) others.0)
            (workers_at v) one.0)),
      )

pub one_history : OneHistoryStandsBehindAll
one_history b s r =
    let all = from b r.next r.seat_of r.at r.history s.words s.views 0
    (λ j v e. subst (λ (k : ℕ). ViewFits b r.next r.seat_of r.at r.history s.words k v) (omega arith) (r.views j v e))
    in
    record {
      run = some_run b s r;
      opened = each_weaker (λ (e : Entry). e.worker < r.next) (λ (e : Entry). e.worker < b.workers)
          (λ e lt. let m = r.most in omega arith) r.history r.given_out;
      parts =
          each_weaker (IsSeatedFrom r.next r.seat_of r.history 0) (KnowsPartOf r.history) (λ w t. t.knows)
          (workers_of s.views) all.0;
      apart = all.1;
      numbered = each_weaker (IsSeatedFrom r.next r.seat_of r.history 0) (λ (w : ℕ × List Entry). w.0 < b.workers)
          (λ w t. let m = r.most in let lt = t.numbered in omega arith) (workers_of s.views) all.0;
    }

pub first_holds : RuleHoldsAtFirst
first_holds b net = (
  first_keeps b [] net,
  record {
    run = run_to b.nodes b.dest b.links net [] (replicate b.nodes 0) tt refl (zeros_lawful b.nodes b.dest b.links);
    opened = tt;
    parts = tt;
    apart = tt;
    numbered = tt;
  },
)

-- new workers know nothing
new_know_nothing : (t : TableId) (b : Setup) (k : ℕ) → Each (KnowsNothing b) (new_workers t b k)
new_know_nothing t b zero = tt
new_know_nothing t b (suc k) = each_append (KnowsNothing b) (new_workers t b k) (new_worker t b k ∷ [])
    (new_know_nothing t b k) (record { calls = refl; seen = refl }, tt)

-- so a round with its new workers has not begun
pub not_begun : (r : OpenRound) (k : ℕ) (workers : List Knowledge) → IsNet r.setup.nodes r.setup.links
    → workers ≡ new_workers r.table r.setup k → HasNotBegun r workers
not_begun r k workers net new =
    let first = first_holds r.setup net in
    record {
      state = first_state r.setup;
      first = refl;
      ruled = first.0.0;
      empty = first.0.1;
      words = refl;
      calls = first.1;
      knows = rw new (new_know_nothing r.table r.setup k);
    }

-- no entry is of a worker whose number is below 0
none_given : (h : List Entry) → Each (λ (e : Entry). e.worker < 0) h → h ≡ []
none_given [] given = refl
none_given (e ∷ h) given = let low = given.0 in absurd (omega arith)

pub only_first : NoOtherStateIsFirst
only_first b words r =
    let none : r.next ≡ 0 = sym ((r.views 0 (opening_view b) refl).opening refl).counts in
    let empty : r.history ≡ [] =
    none_given r.history (subst (λ (k : ℕ). Each (λ (e : Entry). e.worker < k) r.history) none r.given_out) in
    ap (λ (ws : List ℕ). opening ws [] (opening_view b)) (r.words ∙ ap (λ (h : List Entry). (moment b h).counts) empty)

calls_grow : (b : Setup) → CallSteps b (Grows b)
calls_grow b = record {
  own_load =
      λ slots id me x worker inside. loads_own b slots id me x worker.works (omega (
        arith,
        inside,
        ap (λ (z : Setup). z.nodes) worker.setup,
      ));
  exchange =
      λ slots id me x c worker may room had met. exchanges_at b b slots id me x c (c + 1) refl room had worker may met;
  along = λ slots id me x c w call link. loads_along_at b b slots id me x c w call link;
  against = λ slots id me x c w call link. loads_against_at b b slots id me x c w call link;
  look_begins = λ slots id me x worker. begins_look b slots id me x worker.works;
  look_ends = λ slots id me x c call may met. ends_look_at b b slots id me x c call may met;
  catches_up = λ slots id me x worker. catches_up b slots id me x worker.works;
}

seats_grow : (b : Setup) (list : List Entry) → SeatSteps b (HasList b list)
seats_grow b list = record {
  numbers = splits b list;
  closing_comes = enters b list;
  takes_back = joins b list;
  hands_on = hands_on b list;
  receives = receives b list;
}

pub steps_grow : EveryStepGrowsTheList
steps_grow b = record { calls = calls_grow b; seats = seats_grow b }

-- and so each step keeps the rule
pub steps_keep : EveryStepKeepsTheRule
steps_keep b =
    let grows = calls_grow b in
    record {
      calls = record {
        own_load =
            λ slots id me x worker inside. allowed b slots id me x (λ n. n) (own_loaded (step slots x 0 0 none) me)
            (grows.own_load slots id me x worker inside);
        exchange =
            λ slots id me x c worker may room had met. allowed b slots id me x (λ n. either (n == c) (c
            + 1) n) (exchange_made (step slots x c (c + 1) none) me)
            (grows.exchange slots id me x c worker may room had met);
        along =
            λ slots id me x c w call link. allowed b slots id me w (λ n. n)
            (neighbour_loaded 1 (step slots w 0 0 none) me)
            (grows.along slots id me x c w call link);
        against =
            λ slots id me x c w call link. allowed b slots id me w (λ n. n)
            (neighbour_loaded 0 (step slots w 0 0 none) me)
            (grows.against slots id me x c w call link);
        look_begins = λ slots id me x worker. allowed b slots id me x (λ n. n) (look_begun (step slots x 0 0 none) me)
            (grows.look_begins slots id me x worker);
        look_ends =
            λ slots id me x c call may met. allowed b slots id me x (λ n. n) (look_ended (step slots x 0 0 none) me)
            (grows.look_ends slots id me x c call may met);
        catches_up = λ slots id me x worker. allowed b slots id me x (λ n. n) (caught_up (step slots x 0 0 none) me)
            (grows.catches_up slots id me x worker);
      };
      seats = record {
        numbers =
            λ id v opens idle not_closing more. kept_split b id v _ _
            (λ list. splits b list id v opens idle not_closing more);
        closing_comes =
            λ slots x v setup. kept_enter b slots x (λ n w. w
            ≡ closing_view v.setup) (λ list. enters b list slots x v setup);
        takes_back = λ id v other w closes idle not_opening works. kept_join b id v other w _ _
            (λ list. joins b list id v other w closes idle not_opening works);
        hands_on = λ id v. kept_split b id v _ _ (λ list. hands_on b list id v);
        receives = λ id v other w. kept_join b id v other w _ _ (λ list. receives b list id v other w);
      };
    }
