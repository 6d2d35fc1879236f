-- One step of a machine from lawful counts.
use Rattle.std.proofs.Common.{All, Contains, List, [], arith, false, length, nat_lt, refl, slice_index, slice_set}
use Rattle.std.proofs.Common.{subst, sym, ℕ, ⊎_elim, ◌+◌, ◌<◌}
use Rattle.std.proofs.Common.{◌==◌, ◌∙◌, ◌∷◌, ◌≡◌, ◌≤◌}
use Rattle.std.proofs.lemmas.Bool.{cases_eq, cond_both, eqb-false, eqb-true, ltb-false, ltb-true}
use Rattle.std.proofs.lemmas.List.{get_or_default}
use Rattle.std.proofs.lemmas.List.Elements.{All-head, All-nil, All-tail, Contains-get_or}
use Rattle.fr_graph.proofs.Neighbours.{in_of_row, out_of_row, row_of_in, row_of_out}
use Rattle.fr_graph.specs.Counts.{AreLawful, links_at}
use Rattle.fr_graph.specs.Links.{IsNet, Joins, Points}
use Rattle.fr_graph.specs.Rows.{row}
use Rattle.fr_graph.specs.Turn.{IsSink}
use Rattle.fr_graph.specs.declared.first.First.{First}
use Rattle.fr_graph.specs.declared.first.First.TheVariants.{Inward, Outward}
use Rattle.fr_core.proofs.Loads.{held_against, held_along, sink_from_seen}
use Rattle.fr_core.proofs.Turning.{raised-here, raised-other, turn-links_at, turn_lawful}
use Rattle.fr_core.specs.History.{after_all, moment_of}
use Rattle.fr_core.specs.Legal.{CanTurn, IsRun}
use Rattle.fr_core.specs.Machine.{Outcome, all_but_first, begin_call, bound_of, confirm, decides, entry_of, exchange}
use Rattle.fr_core.specs.Machine.{goes_on, load_neighbour}
use Rattle.fr_core.specs.Machine.{load_own, load_to_look, neighbour_at, outcome, phase_unheld, step_idle}
use Rattle.fr_core.specs.Sound.{IsFit, IsSoundPhase, IsUnderWay}
use Rattle.fr_core.specs.Targets.{IsLookable, IsTurnable, node_of}
use Rattle.fr_core.specs.declared.entry.Reply.TheVariants.{Cut, Held, Moved, Sink, Turned}
use Rattle.fr_core.specs.declared.targets.Target.{Target}
use Rattle.fr_core.specs.declared.targets.Target.TheVariants.{Look, Turn}
use Rattle.fr_core.specs.declared.worker.Phase.{Phase}
use Rattle.fr_core.specs.declared.worker.Phase.TheVariants.{Confirming, Idle, Looking, Swapping}

-- what a target that is not refused is on
pub fit_inside : (n d : ℕ) (first : List (ℕ × ℕ)) (t : Target) → IsFit n d first t → node_of t < n
fit_inside n d first (Turn x) fit = fit.inside
fit_inside n d first (Look x) fit = fit.inside

fit_linked : (n d : ℕ) (first : List (ℕ × ℕ)) (t : Target) → IsFit n d first t → (w : ℕ) × Joins first (node_of t) w
fit_linked n d first (Turn x) fit = fit.linked
fit_linked n d first (Look x) fit = fit.linked

-- counts that rise keep a call under way
call_rises : (n d : ℕ) (first : List (ℕ × ℕ)) (b c : List ℕ) → ((y : ℕ) → slice_index b y ≤ slice_index c y)
    → (t : Target) (k j : ℕ) → IsUnderWay n d first b t k j → IsUnderWay n d first c t k j
call_rises n d first b c rises t k j h = record {
  fit = h.fit;
  low = omega (arith, h.low, rises (node_of t));
  in_range = h.in_range;
  enough = λ i l. omega (arith, h.enough i l, rises (neighbour_at (row n first (node_of t)) i).0);
}

pub phase_rises : (n d : ℕ) (first : List (ℕ × ℕ)) (b c : List ℕ) → ((y : ℕ) → slice_index b y ≤ slice_index c y)
    → (phase : Phase) → IsSoundPhase n d first b phase → IsSoundPhase n d first c phase
phase_rises n d first b c rises Idle h = tt
phase_rises n d first b c rises (Looking t k j) h = (call_rises n d first b c rises t k j h.0, h.1)
phase_rises n d first b c rises (Swapping x k) h = call_rises n d first b c rises (Turn x) k (length (row n first x)) h
phase_rises n d first b c rises (Confirming x k) h =
    call_rises n d first b c rises (Look x) k (length (row n first x)) h

-- a call that no neighbour held
unheld_sound : (n d : ℕ) (first : List (ℕ × ℕ)) (counts : List ℕ) (t : Target) (c : ℕ)
    → IsUnderWay n d first counts t c (length (row n first (node_of t)))
    → IsSoundPhase n d first counts (phase_unheld t c)
unheld_sound n d first counts (Turn x) c call = call
unheld_sound n d first counts (Look x) c call = call

-- a step of worker k from these counts: what it decides is legal, the moment after it has the new counts, and all stays sound
pub record IsFine (n d : ℕ) (first : List (ℕ × ℕ)) (k : ℕ) (counts : List ℕ) (made : Outcome) : Type 0 where
  pub run : IsRun n d (moment_of first counts) (entry_of k made.decided)
  pub moment : after_all (moment_of first counts) (entry_of k made.decided) ≡ moment_of first made.counts
  pub lawful : AreLawful n d first made.counts
  pub rises : (y : ℕ) → slice_index counts y ≤ slice_index made.counts y
  pub fit : All (IsFit n d first) made.worker.left
  pub phase : IsSoundPhase n d first made.counts made.worker.phase

fit_rest : (n d : ℕ) (first : List (ℕ × ℕ)) (left : List Target) → All (IsFit n d first) left
    → All (IsFit n d first) (all_but_first left)
fit_rest n d first [] all = All-nil (IsFit n d first)
fit_rest n d first (t ∷ ts) all = All-tail (IsFit n d first) t ts all

module _ (n d : ℕ) (first : List (ℕ × ℕ)) (net : IsNet n first) (k : ℕ) (counts : List ℕ)
    (lawful : AreLawful n d first counts) (left : List Target) (all : All (IsFit n d first) left) where
  fine_on : (phase : Phase) → IsSoundPhase n d first counts phase
      → IsFine n d first k counts (goes_on counts left phase)
  fine_on phase h = record { run = tt; moment = refl; lawful = lawful; rises = λ y. omega arith; fit = all; phase = h }

  fine_cut : (x : ℕ) → x < n → slice_index counts x ≡ n → IsFine n d first k counts (decides counts left x Cut)
  fine_cut x l e =
      record {
        run = ((l, e), tt);
        moment = refl;
        lawful = lawful;
        rises = λ y. omega arith;
        fit = fit_rest n d first left all;
        phase = tt;
      }

  fine_held : (x w : ℕ) → x < n → Points (links_at first counts) x w
      → IsFine n d first k counts (decides counts left x (Held w))
  fine_held x w l h =
      record {
        run = ((l, h), tt);
        moment = refl;
        lawful = lawful;
        rises = λ y. omega arith;
        fit = fit_rest n d first left all;
        phase = tt;
      }

  fine_moved : (x c : ℕ) → x < n → c < slice_index counts x
      → IsFine n d first k counts (decides counts left x (Moved c (slice_index counts x)))
  fine_moved x c l h = record {
    run = ((l, (refl, h)), tt);
    moment = refl;
    lawful = lawful;
    rises = λ y. omega arith;
    fit =
        fit_rest n d first left all;
    phase = tt;
  }

  fine_sink : (x : ℕ) → x < n → IsSink (links_at first counts) x
      → IsFine n d first k counts (decides counts left x Sink)
  fine_sink x l h =
      record {
        run = ((l, h), tt);
        moment = refl;
        lawful = lawful;
        rises = λ y. omega arith;
        fit = fit_rest n d first left all;
        phase = tt;
      }

  fine_turned : (x : ℕ) → x < n → CanTurn n d (moment_of first counts) x
      → IsFine n d first k counts (decides (slice_set counts x (slice_index counts x
      + 1)) left x (Turned (slice_index counts x + 1)))
  fine_turned x l can = record {
    run = ((l, (can, refl)), tt);
    moment =
        λ i. record {
          links = turn-links_at n d first net counts lawful x can i;
          counts = slice_set counts x (slice_index counts x + 1);
        };
    lawful = turn_lawful n d first net counts lawful x can;
    rises =
        λ y. ⊎_elim (λ e. omega (arith, raised-here counts x y inside e)) (λ ne. omega (
          arith,
          raised-other counts x y ne,
        )) (cases_eq y x);
    fit = fit_rest n d first left all;
    phase = tt;
  }
    where
      inside : x < length counts
      inside = omega (arith, l, lawful.one_each)

  -- a neighbour of too low a count holds x
  too_low_holds : (x c : ℕ) → c ≤ slice_index counts x → (w : ℕ) (way : First) → Contains (row n first x) (w, way)
      → slice_index counts w < bound_of way c → Points (links_at first counts) x w
  too_low_holds x c low w Outward h miss = held_along first counts lawful.kept x w c low (out_of_row n first x w h) miss
  too_low_holds x c low w Inward h miss = held_against first counts lawful.kept x w c low (in_of_row n first x w h) miss

  enough_all : (t : Target) (c : ℕ) → IsUnderWay n d first counts t c (length (row n first (node_of t)))
      → (e : ℕ × First)
      → Contains (row n first (node_of t)) e → bound_of e.1 c ≤ slice_index counts e.0
  enough_all t c call e (i, l, at) = subst (λ (p : ℕ × First). bound_of p.1 c ≤ slice_index counts p.0)
      (get_or_default (row n first (node_of t)) i (0, Outward) e l ∙ at) (call.enough i l)

  -- a call that no neighbour held is on a sink, if its node has kept its count
  unheld_sink : (t : Target) (c : ℕ) → IsUnderWay n d first counts t c (length (row n first (node_of t)))
      → slice_index counts (node_of t) ≡ c → IsSink (links_at first counts) (node_of t)
  unheld_sink t c call e =
      sink_from_seen first counts lawful.kept (node_of t) (slice_index counts) (λ w. omega arith)
      (fit_linked n d first t call.fit)
      (λ w h. let m = enough_all t c call (w, Outward) (row_of_out n first (node_of t) w net h) in omega (arith, e, m))
      (λ w h. let m = enough_all t c call (w, Inward) (row_of_in n first (node_of t) w net h) in omega (arith, e, m))

  can_turn : (x c : ℕ) → IsUnderWay n d first counts (Turn x) c (length (row n first x)) → slice_index counts x ≡ c
      → CanTurn n d (moment_of first counts) x
  can_turn x c call e = record {
    not_destination = call.fit.not_destination;
    below_cap = (let low : c < n = call.in_range in omega (arith, e, low));
    sink = unheld_sink (Turn x) c call e;
  }

  row_some : (x : ℕ) → (w : ℕ) × Joins first x w → 0 < length (row n first x)
  row_some x linked = ⊎_elim
      (λ h. let c = row_of_out n first x linked.0 net h in omega (arith, c.1))
      (λ h. let c = row_of_in n first x linked.0 net h in omega (arith, c.1))
      linked.1

  load_neighbour_fine : (t : Target) (c j : ℕ) → IsUnderWay n d first counts t c j
      → j < length (row n first (node_of t))
      → IsFine n d first k counts (load_neighbour (row n first (node_of t)) counts left t c j)
  load_neighbour_fine t c j call place =
      cond_both (nat_lt (slice_index counts w.0) (bound_of w.1 c)) _ _ (IsFine n d first k counts)
      (λ b. fine_held (node_of t) w.0 (fit_inside n d first t call.fit)
      (too_low_holds (node_of t) c call.low w.0 w.1 (Contains-get_or (row n first (node_of t)) j (0, Outward) place)
      (ltb-true _ _ b)))
      (λ f. cond_both (j + 1 == length (row n first (node_of t))) _ _ (IsFine n d first k counts)
      (λ b. fine_on (phase_unheld t c)
      (unheld_sound n d first counts t c
      (subst (λ (z : ℕ). IsUnderWay n d first counts t c z) (eqb-true _ _ b) (more f))))
      (λ g. fine_on (Looking t c (j + 1)) (more f, (let ne = eqb-false _ _ g in omega (arith, ne, place)))))
    where
      w : ℕ × First
      w = neighbour_at (row n first (node_of t)) j

      more : nat_lt (slice_index counts (neighbour_at (row n first (node_of t)) j).0)
          (bound_of (neighbour_at (row n first (node_of t)) j).1 c) ≡ false → IsUnderWay n d first counts t c (j + 1)
      more f = record {
        fit = call.fit;
        low = call.low;
        in_range = call.in_range;
        enough = λ i l. ⊎_elim
            (λ e. subst (λ (z : ℕ). bound_of (neighbour_at (row n first (node_of t)) z).1 c ≤ slice_index counts
            (neighbour_at (row n first (node_of t)) z).0) (sym e) (ltb-false _ _ f))
            (λ ne. call.enough i (omega (arith, ne, l)))
            (cases_eq i j);
      }

  exchange_fine : (x c : ℕ) → IsUnderWay n d first counts (Turn x) c (length (row n first x))
      → IsFine n d first k counts (exchange counts left x c)
  exchange_fine x c call =
      cond_both (slice_index counts x == c) _ _ (IsFine n d first k counts)
      (λ t. let e = eqb-true (slice_index counts x) c t in
      subst (λ (z : ℕ). IsFine n d first k counts (decides (slice_set counts x (z + 1)) left x (Turned (z + 1)))) e
      (fine_turned x call.fit.inside (can_turn x c call e)))
      (λ f. let ne = eqb-false (slice_index counts x) c f in fine_moved x c call.fit.inside (omega (
        arith,
        ne,
        call.low,
      )))

  confirm_fine : (x c : ℕ) → IsUnderWay n d first counts (Look x) c (length (row n first x))
      → IsFine n d first k counts (confirm counts left x c)
  confirm_fine x c call =
      cond_both (slice_index counts x == c) _ _ (IsFine n d first k counts)
      (λ t. fine_sink x call.fit.inside (unheld_sink (Look x) c call (eqb-true (slice_index counts x) c t)))
      (λ f. let ne = eqb-false (slice_index counts x) c f in fine_moved x c call.fit.inside (omega (
        arith,
        ne,
        call.low,
      )))

  load_own_fine : (x : ℕ) → IsTurnable n d first x → IsFine n d first k counts (load_own n counts left x)
  load_own_fine x turnable =
      cond_both (slice_index counts x == n) _ _ (IsFine n d first k counts)
      (λ t. fine_cut x turnable.inside (eqb-true _ _ t))
      (λ f. fine_on (Looking (Turn x) (slice_index counts x) 0) (
        record {
          fit = turnable;
          low = omega arith;
          in_range =
              (let ne = eqb-false _ _ f in omega (arith, ne, lawful.capped x));
          enough = λ i l. absurd (omega (arith, l));
        },
        row_some x turnable.linked,
      ))

  load_to_look_fine : (x : ℕ) → IsLookable n first x → IsFine n d first k counts (load_to_look counts left x)
  load_to_look_fine x lookable = fine_on (Looking (Look x) (slice_index counts x) 0) (
    record { fit = lookable; low = omega arith; in_range = lawful.capped x; enough = λ i l. absurd (omega (arith, l)) },
    row_some x lookable.linked,
  )

  begin_fine : (t : Target) → IsFit n d first t → IsFine n d first k counts (begin_call n counts left t)
  begin_fine (Turn x) fit = load_own_fine x fit
  begin_fine (Look x) fit = load_to_look_fine x fit

idle_fine : (n d : ℕ) (first : List (ℕ × ℕ)) → IsNet n first → (k : ℕ) (counts : List ℕ) → AreLawful n d first counts
    → (left : List Target) → All (IsFit n d first) left → IsFine n d first k counts (step_idle n counts left)
idle_fine n d first net k counts lawful [] all = fine_on n d first net k counts lawful [] all Idle tt
idle_fine n d first net k counts lawful (t ∷ ts) all =
    begin_fine n d first net k counts lawful (t ∷ ts) all t (All-head (IsFit n d first) t ts all)

-- each step is fine
pub outcome_fine : (n d : ℕ) (first : List (ℕ × ℕ)) → IsNet n first → (k : ℕ) (counts : List ℕ)
    → AreLawful n d first counts
    → (left : List Target) → All (IsFit n d first) left → (phase : Phase) → IsSoundPhase n d first counts phase
    → IsFine n d first k counts (outcome n first counts left phase)
outcome_fine n d first net k counts lawful left all Idle h = idle_fine n d first net k counts lawful left all
outcome_fine n d first net k counts lawful left all (Looking t c j) h =
    load_neighbour_fine n d first net k counts lawful left all t c j h.0 h.1
outcome_fine n d first net k counts lawful left all (Swapping x c) h =
    exchange_fine n d first net k counts lawful left all x c h
outcome_fine n d first net k counts lawful left all (Confirming x c) h =
    confirm_fine n d first net k counts lawful left all x c h
