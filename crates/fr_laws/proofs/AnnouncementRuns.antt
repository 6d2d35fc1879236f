-- The announcements of routers are a run of full reversal.
use Rattle.std.proofs.Common.{List, [], ap, arith, eq-eqb, length, ne_eqb, refl, replicate, slice_index, subst, sum}
use Rattle.std.proofs.Common.{sym, ℕ, ⊎_elim, ◌*◌, ◌+◌, ◌-◌, ◌<◌, ◌∙◌, ◌∷◌, ◌≡◌, ◌≤◌}
use Rattle.std.proofs.lemmas.Bool.{cases_eq, cond-false, cond-true}
use Rattle.std.proofs.lemmas.List.Folds.{sum_by-replicate}
use Rattle.fr_core.proofs.Finishing.{index-zeros, links_at-zeros, moment_path, settled_exists, zeros_lawful}
use Rattle.fr_core.proofs.Paths.{path_gives_zero}
use Rattle.fr_core.proofs.Rounds.{links-after_all}
use Rattle.fr_core.proofs.Runs.{run_count, run_sum}
use Rattle.fr_core.proofs.SettledRuns.{run_to_settled}
use Rattle.fr_core.proofs.Totals.{connected_few}
use Rattle.fr_core.proofs.Turning.{raised, raised-here, raised-other, turn-links_at, turn_lawful}
use Rattle.fr_core.proofs.Unique.{joined_count_below, lawful_le_settled}
use Rattle.fr_core.specs.History.{Moment, after, after_all, links_after, moment_of, turn_count, turn_count_of}
use Rattle.fr_core.specs.Legal.{CanTurn, IsRun}
use Rattle.fr_core.specs.Settled.{AreSettled}
use Rattle.fr_core.specs.Work.{IsConnectedNet}
use Rattle.fr_core.specs.declared.entry.Entry.{Entry}
use Rattle.fr_core.specs.declared.entry.Reply.TheVariants.{Turned}
use Rattle.fr_graph.specs.Counts.{AreLawful, links_at}
use Rattle.fr_node.proofs.Announcing.{HasKept, HasRaised}
use Rattle.fr_laws.proofs.Announcing.{raised_or_kept}
use Rattle.fr_laws.proofs.NetworkSteps.{is_sink, stays, turns}
use Rattle.fr_laws.proofs.QuietEnds.{turns-cons}
use Rattle.fr_laws.specs.Announcements.{AllAnnounceFew, AnnouncementsAreARun, AreSteps, Configuration, EachAnnouncesFew}
use Rattle.fr_laws.specs.Announcements.{HeightsFollowTheRun, IsNetwork, IsStep, TurnsAreAnnouncements, announcements}
use Rattle.fr_laws.specs.Announcements.{last, times}

-- the entries lead from the counts c by turns to the configuration t, whose routers have announced as often as counts
-- say since `begin`
pub record LeadTo (n d : ℕ) (first : List (ℕ × ℕ)) (begin : Configuration) (c : List ℕ) (es : List Entry)
    (t : Configuration) : Type 0 where
  pub run : IsRun n d (moment_of first c) es
  pub counts : List ℕ
  pub ends : after_all (moment_of first c) es ≡ moment_of first counts
  pub lawful : AreLawful n d first counts
  pub counted : (y : ℕ) → y < n → slice_index counts y + (begin.node y).own.number ≡ (t.node y).own.number
  pub network : IsNetwork n d (links_at first counts) t
  pub turns_alone : turn_count es ≡ length es

module _ (n d : ℕ) (first : List (ℕ × ℕ)) (net : IsConnectedNet n d first) (begin : Configuration) where
  -- the routers of s have announced as often as c says
  record IsAt (c : List ℕ) (s : Configuration) : Type 0 where
    lawful : AreLawful n d first c
    counted : (y : ℕ) → y < n → slice_index c y + (begin.node y).own.number ≡ (s.node y).own.number
    network : IsNetwork n d (links_at first c) s

  module _ (c : List ℕ) (s : Configuration) (at : IsAt c s) (x : ℕ) (inside : x < n) (t : Configuration)
      (step : IsStep x s t) where
    kept_at : HasKept (s.node x) (t.node x) → IsAt c t
    kept_at kept = record {
      lawful = at.lawful;
      counted = λ y l. at.counted y l ∙ sym (number y);
      network = stays n d (links_at first c) s t x inside at.network step kept;
    }
      where
        number : (y : ℕ) → (t.node y).own.number ≡ (s.node y).own.number
        number y = ⊎_elim
            (λ e. subst (λ (z : ℕ). (t.node z).own.number ≡ (s.node z).own.number) (sym e) kept.number)
            (λ other. ap (λ (a : _). a.own.number) (step.others y other))
            (cases_eq y x)

    module _ (rises : HasRaised (s.node x) (t.node x)) where
      below_cap : slice_index c x < n
      below_cap = let ends = settled_exists n d first net.is_net net.dest in omega (
        arith,
        lawful_le_settled n d first c ends.0 at.lawful ends.1 x inside,
        joined_count_below n d first net.is_net net.dest ends.0 ends.1 x (net.joined x inside),
      )

      can : CanTurn n d (moment_of first c) x
      can = record {
        not_destination = λ e. false_true (sym rises.forwards ∙ (at.network.router x inside).gateway.1 e);
        below_cap = below_cap;
        sink = is_sink n d (links_at first c) s t x inside at.network step rises;
      }
        where
          false_true : Rattle.std.specs.Prelude.false ≡ Rattle.std.specs.Prelude.true → ⊥
          false_true e = cc

      raised_at : IsAt (raised c x) t
      raised_at = record {
        lawful = turn_lawful n d first net.is_net c at.lawful x can;
        counted = λ y l. ⊎_elim
            (λ e. omega (
              arith,
              raised-here c x y (omega (arith, inside, at.lawful.one_each)) e,
              at.counted y l,
              subst (λ (z : ℕ). (t.node z).own.number ≡ (s.node z).own.number + 1) (sym e) rises.number,
            ))
            (λ other. omega (
              arith,
              raised-other c x y other,
              at.counted y l,
              ap (λ (a : _). a.own.number) (step.others y other),
            ))
            (cases_eq y x);
        network = subst (λ (links : List (ℕ × ℕ)). IsNetwork n d links t)
            (turn-links_at n d first net.is_net c at.lawful x can)
            (turns n d (links_at first c) s t x inside at.network step rises);
      }

      -- the entry of the announcement is a legal turn, and then the others follow
      after_it : (es : List Entry) (u : Configuration) → LeadTo n d first begin (raised c x) es u
          → LeadTo n d first begin c (record { worker = x; node = x; reply = Turned (times begin t x) } ∷ es) u
      after_it es u rest = record {
        run = (
          (inside, (can, omega (arith, at.counted x inside, rises.number))),
          subst (λ (m : Moment). IsRun n d m es) (sym there) rest.run,
        );
        counts = rest.counts;
        ends = ap (λ (m : Moment). after_all m es) there ∙ rest.ends;
        lawful = rest.lawful;
        counted = rest.counted;
        network = rest.network;
        turns_alone = omega (
          arith,
          turns-cons (record { worker = x; node = x; reply = Turned (times begin t x) }) es,
          rest.turns_alone,
        );
      }
        where
          there : after (moment_of first c) (record { worker = x; node = x; reply = Turned (times begin t x) })
              ≡ moment_of first (raised c x)
          there = moment_path _ (moment_of first (raised c x))
              (turn-links_at n d first net.is_net c at.lawful x can) refl

  lead : (c : List ℕ) (s : Configuration) → IsAt c s → (ps : List (ℕ × Configuration)) → AreSteps n s ps
      → LeadTo n d first begin c (announcements begin s ps) (last s ps)
  lead c s at [] steps = record {
    run = tt;
    counts = c;
    ends = refl;
    lawful = at.lawful;
    counted = at.counted;
    network = at.network;
    turns_alone = refl;
  }
  lead c s at ((x, t) ∷ ps) (inside, step, steps) = ⊎_elim
      (λ rises. subst (λ (es : List Entry). LeadTo n d first begin c es (last t ps))
      (sym (cond-false _ _ _ (ne_eqb (t.node x).own.number (s.node x).own.number
      (λ e. omega (arith, e, rises.number)))))
      (after_it c s at x inside t step rises (announcements begin t ps) (last t ps)
      (lead (raised c x) t (raised_at c s at x inside t step rises) ps steps)))
      (λ kept. subst (λ (es : List Entry). LeadTo n d first begin c es (last t ps))
      (sym (cond-true _ _ _ (eq-eqb (t.node x).own.number (s.node x).own.number kept.number)))
      (lead c t (kept_at c s at x inside t step kept) ps steps))
      (raised_or_kept d x (s.node x) (t.node x) (at.network.router x inside) step.messages step.call)

-- from the start
module _ (n d : ℕ) (first : List (ℕ × ℕ)) (net : IsConnectedNet n d first) (s : Configuration)
    (is : IsNetwork n d first s) (ps : List (ℕ × Configuration)) (steps : AreSteps n s ps) where
  pub whole : LeadTo n d first s (replicate n 0) (announcements s s ps) (last s ps)
  whole = lead n d first net s (replicate n 0) s (record {
    lawful = zeros_lawful n d first;
    counted = λ y l. omega (arith, index-zeros n y);
    network = subst (λ (links : List (ℕ × ℕ)). IsNetwork n d links s) (sym (links_at-zeros n first)) is;
  }) ps steps

  links_then : links_at first whole.counts ≡ links_after first (announcements s s ps)
  links_then = sym (ap (λ (m : Moment). m.links) whole.ends)
      ∙ links-after_all (moment_of first (replicate n 0)) (announcements s s ps)
      ∙ ap (λ (links : List (ℕ × ℕ)). links_after links (announcements s s ps)) (links_at-zeros n first)

  network_then : IsNetwork n d (links_after first (announcements s s ps)) (last s ps)
  network_then = subst (λ (links : List (ℕ × ℕ)). IsNetwork n d links (last s ps)) links_then whole.network

  pub count_is : (x : ℕ) → x < n → times s (last s ps) x ≡ slice_index whole.counts x
  count_is x inside = omega (arith, whole.counted x inside)

  turns_are : (x : ℕ) → x < n → turn_count_of x (announcements s s ps) ≡ times s (last s ps) x
  turns_are x inside = omega (
    arith,
    count_is x inside,
    ap (λ (m : Moment). slice_index m.counts x) whole.ends,
    run_count n d (moment_of first (replicate n 0)) (announcements s s ps) (zeros_lawful n d first).one_each whole.run
        x,
    index-zeros n x,
  )

  module _ (settled : List ℕ) (ends : AreSettled n d first settled) where
    each_few : (x : ℕ) → x < n → times s (last s ps) x ≤ slice_index settled x
    each_few x inside = omega (
      arith,
      count_is x inside,
      lawful_le_settled n d first whole.counts settled whole.lawful ends x inside,
    )

    zero_sum : sum (replicate n 0) ≡ 0
    zero_sum = omega (arith, sum_by-replicate (λ (k : ℕ). k) n 0)

    long : sum whole.counts ≡ length (announcements s s ps)
    long = omega (
      arith,
      ap (λ (m : Moment). sum m.counts) whole.ends,
      run_sum n d (moment_of first (replicate n 0)) (announcements s s ps) (zeros_lawful n d first).one_each whole.run,
      whole.turns_alone,
      zero_sum,
    )

    all_few : (length (announcements s s ps) ≤ sum settled) × (2 * length (announcements s s ps) ≤ n * (n - 1))
    all_few = (
      omega (arith, long, (run_to_settled n d first whole.counts settled net.is_net net.dest whole.lawful ends).0),
      omega (
        arith,
        connected_few n d first (replicate n 0) (announcements s s ps) net (zeros_lawful n d first) whole.run,
        whole.turns_alone,
        zero_sum,
      ),
    )

pub announcements_are_a_run : AnnouncementsAreARun
announcements_are_a_run n d first s ps net is steps = (whole n d first net s is ps steps).run

pub heights_follow : HeightsFollowTheRun
heights_follow n d first s ps net is steps = network_then n d first net s is ps steps

pub turns_are_announcements : TurnsAreAnnouncements
turns_are_announcements n d first s ps x net is steps = turns_are n d first net s is ps steps x

pub each_announces_few : EachAnnouncesFew
each_announces_few n d first settled s ps x net ends is steps inside =
    let few = each_few n d first net s is ps steps settled ends x inside in (
      few,
      λ path. omega (arith, few, path_gives_zero n d first x (slice_index settled x) (ends.settled x inside) path),
    )

pub all_announce_few : AllAnnounceFew
all_announce_few n d first settled s ps net ends is steps = all_few n d first net s is ps steps settled ends
