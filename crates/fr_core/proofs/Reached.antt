-- From lawful counts turns alone lead to all lawful counts that are nowhere below them.
use Rattle.std.proofs.Common.{List, [], ap, arith, inl, inr, length, refl, slice_index, subst, suc, sum, sym, zero, ℕ}
use Rattle.std.proofs.Common.{⊎_elim, ◌*◌, ◌+◌, ◌<◌, ◌∙◌}
use Rattle.std.proofs.Common.{◌∷◌, ◌≡◌, ◌≤◌, ◌⊎◌}
use Rattle.std.proofs.lemmas.Bool.{cases_eq, cases_lt}
use Rattle.std.proofs.lemmas.List.{ext_get_or}
use Rattle.fr_core.proofs.Finishing.{TurnsTo, moment_path, no_turns, turn_first}
use Rattle.fr_core.proofs.Following.{path_short}
use Rattle.fr_core.proofs.Runs.{lawful_sum, sum_after_reply}
use Rattle.fr_core.proofs.Searching.{cases_below}
use Rattle.fr_core.proofs.Settling.{cases_linked, cases_out}
use Rattle.fr_core.proofs.Sinks.{kept_at, sink_from_none_out}
use Rattle.fr_core.proofs.Turning.{IsLawfulAt, raised-here, raised-other, run_keeps, turn_keeps}
use Rattle.fr_core.specs.History.{Moment, after_all, after_reply, count_at, moment_of}
use Rattle.fr_core.specs.Laws.{LawfulIsReached}
use Rattle.fr_core.specs.Legal.{CanTurn}
use Rattle.fr_core.specs.declared.entry.Reply.TheVariants.{Turned}
use Rattle.fr_graph.proofs.Acyclic.{links_at_acyclic}
use Rattle.fr_graph.proofs.Giving.{ComesFrom, Points-links_at_from}
use Rattle.fr_graph.proofs.Linking.{joined_below}
use Rattle.fr_graph.specs.Counts.{AreLawful, links_at}
use Rattle.fr_graph.specs.Links.{IsNet, IsPath, Joins, Points}
use Rattle.fr_graph.specs.Turn.{IsSink}

module _ (n d : ℕ) (first : List (ℕ × ℕ)) (net : IsNet n first) (c : List ℕ) (goal : AreLawful n d first c) where
  -- x has turns left to make
  abbrev IsBehind : List ℕ → ℕ → Type 0
  IsBehind b x = slice_index b x < slice_index c x

  behind_linked : (b : List ℕ) (x : ℕ) → IsBehind b x → (w : ℕ) × Joins first x w
  behind_linked b x behind =
      ⊎_elim (λ linked. linked) (λ alone. absurd (omega (arith, goal.alone x alone, behind))) (cases_linked first x)

  behind_below : (b : List ℕ) (x : ℕ) → IsBehind b x → x < n
  behind_below b x behind = let l = behind_linked b x behind in (joined_below n first x l.0 net l.1).0

  module _ (b : List ℕ) (lawful : AreLawful n d first b) where
    -- where a link points from a node with turns left, that node has some too
    behind_out : (x y : ℕ) → ComesFrom first b x y → IsBehind b x → IsBehind b y
    behind_out x y (inl h) behind =
        ⊎_elim (λ e. omega (arith, behind, h.1, e)) (λ e. omega (arith, behind, h.1, e))
        (kept_at first c goal.kept x y h.0)
    behind_out x y (inr h) behind =
        ⊎_elim (λ e. omega (arith, behind, h.1, e)) (λ e. omega (arith, behind, h.1, e))
        (kept_at first c goal.kept y x h.0)

    behind_turns : (x : ℕ) → IsBehind b x → ((y : ℕ) → ¬ Points (links_at first b) x y)
        → CanTurn n d (moment_of first b) x
    behind_turns x behind none = let l = behind_linked b x behind in record {
      not_destination = λ e. omega (arith, behind, goal.destination, ap (slice_index c) e);
      below_cap = omega (arith, behind, goal.capped x);
      sink = sink_from_none_out first b lawful.kept x l.0 l.1 none;
    }

    follow : (k x : ℕ) → IsBehind b x → ((y : ℕ) × IsBehind b y × CanTurn n d (moment_of first b) y)
        ⊎ ((vs : List ℕ) × (length vs ≡ k) × IsPath (links_at first b) x vs)
    follow zero x behind = inr ([], refl, tt)
    follow (suc k) x behind = ⊎_elim
        (λ o. ⊎_elim (λ r. inl r) (λ p. inr (o.0 ∷ p.0, ap suc p.1, (o.1, p.2)))
        (follow k o.0 (behind_out x o.0 (Points-links_at_from first b x o.0 o.1) behind)))
        (λ none. inl (x, behind, behind_turns x behind none))
        (cases_out (links_at first b) x)

    head_below : (u v : ℕ) → ComesFrom first b u v → v < n
    head_below u v (inl h) = (joined_below n first v u net (inr h.0)).0
    head_below u v (inr h) = (joined_below n first v u net (inl h.0)).0

    -- so one of those can turn
    some_turns : (x : ℕ) → IsBehind b x → (y : ℕ) × IsBehind b y × CanTurn n d (moment_of first b) y
    some_turns x behind = ⊎_elim (λ r. r)
        (λ p. absurd (omega (
          arith,
          p.1,
          path_short (links_at first b) n (links_at_acyclic first b net.acyclic)
              (λ u v h. head_below u v (Points-links_at_from first b u v h)) x p.0 (behind_below b x behind) p.2,
        )))
        (follow n x behind)

  abbrev IsThere : Moment → Type 0
  IsThere m = m.counts ≡ c

  lead_by : (fuel : ℕ) (m : Moment) → IsLawfulAt n d first m → ((x : ℕ) → slice_index m.counts x ≤ slice_index c x)
      → n * n < sum m.counts + fuel → TurnsTo n d m IsThere
  lead_by zero m at low l = absurd (omega (arith, lawful_sum n d first m.counts at.lawful))
  lead_by (suc fuel) m at low l = ⊎_elim {C = TurnsTo n d m IsThere}
      (λ f.
      let t = some_turns m.counts at.lawful f.0 f.2 in
      let x : ℕ = t.0 in
      let k : ℕ = count_at m x + 1 in
      let can : CanTurn n d m x = record {
        not_destination = t.2.not_destination;
        below_cap = t.2.below_cap;
        sink =
            subst (λ (ls : List (ℕ × ℕ)). IsSink ls x) (sym at.links) t.2.sink;
      } in
      let below : x < n = behind_below m.counts x t.1 in
      let inside : x < length m.counts = omega (arith, below, at.lawful.one_each) in
      let adds = sum_after_reply m x (Turned k) inside in
      let still_low : (y : ℕ) → slice_index (after_reply m x (Turned k)).counts y ≤ slice_index c y = λ y. ⊎_elim
      (λ e. omega (arith, raised-here m.counts x y inside e, t.1, ap (slice_index c) e, ap (slice_index m.counts) e))
      (λ ne. omega (arith, raised-other m.counts x y ne, low y))
      (cases_eq y x) in
      turn_first n d m IsThere x can below
      (lead_by fuel (after_reply m x (Turned k)) (turn_keeps n d first net m at x k can) still_low (omega (
        arith,
        adds,
      ))))
      (λ none. no_turns n d m IsThere (ext_get_or 0 m.counts c (at.lawful.one_each ∙ sym goal.one_each) (λ x l. ⊎_elim
      (λ behind. absurd (none x (behind_below m.counts x behind) behind))
      (λ high. omega (arith, low x, high))
      (cases_lt (slice_index m.counts x) (slice_index c x)))))
      (cases_below (IsBehind m.counts)
      (λ x. ⊎_elim (λ l. inl l) (λ high. inr (λ l. omega (arith, high, l)))
      (cases_lt (slice_index m.counts x) (slice_index c x))) n)

pub lawful_reached : LawfulIsReached
lawful_reached = λ n d first before counts net lawful goal low.
    let start : Moment = moment_of first before in
    let at : IsLawfulAt n d first start = record { links = refl; lawful = lawful } in
    let t = lead_by n d first net counts goal (suc (n * n)) start at low (omega arith) in
    let end : Moment = after_all start t.entries in
    let at_end = run_keeps n d first net start at t.entries t.run in (
      t.entries,
      t.run,
      t.turns_alone,
      moment_path end (moment_of first counts) (at_end.links ∙ ap (links_at first) t.ends) t.ends,
    )
