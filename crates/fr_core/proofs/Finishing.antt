-- Each run can be carried on by turns alone until no node can turn.
use Rattle.fr_core.proofs.Settling.{settled_from_none}
use Rattle.std.proofs.Common.{List, [], ap, arith, cond, inl, inr, length, refl, replicate, slice_index, subst, suc}
use Rattle.std.proofs.Common.{sum, sym, zero, ℕ, ⊎_elim, ◌*◌}
use Rattle.std.proofs.Common.{◌+◌, ◌<◌, ◌∙◌, ◌∷◌, ◌≡◌, ◌⊎◌}
use Rattle.std.proofs.lemmas.Bool.{cases_eq, cases_lt}
use Rattle.std.proofs.lemmas.List.{get_or-replicate, get_or_past, length-replicate}
use Rattle.std.proofs.lemmas.List.Sums.{sum_by-cons}
use Rattle.fr_core.proofs.Runs.{lawful_sum, sum_after_reply}
use Rattle.fr_core.proofs.Searching.{cases_below}
use Rattle.fr_core.proofs.Settling.{cases_out}
use Rattle.fr_core.proofs.Turning.{All-from_Contains, IsLawfulAt, can_turn_below, run_keeps, turn_keeps}
use Rattle.fr_core.proofs.Unique.{settled_unique}
use Rattle.fr_core.specs.History.{Moment, after_all, after_reply, count_at, is_turned, moment_of, turn_count}
use Rattle.fr_core.specs.Legal.{CanTurn, IsRun, NoneCanTurn}
use Rattle.fr_core.specs.Settled.{AreSettled}
use Rattle.fr_core.specs.declared.entry.Entry.{Entry}
use Rattle.fr_core.specs.declared.entry.Reply.TheVariants.{Turned}
use Rattle.fr_graph.proofs.Giving.{link_at-same}
use Rattle.fr_graph.proofs.Members.{cases_some}
use Rattle.fr_graph.specs.Counts.{AreLawful, IsKept, links_at}
use Rattle.fr_graph.specs.Links.{IsNet, Points}
use Rattle.fr_graph.specs.Turn.{IsSink}

cases_in : (links : List (ℕ × ℕ)) (x : ℕ) → ((y : ℕ) × Points links y x) ⊎ ((y : ℕ) → ¬ Points links y x)
cases_in links x = ⊎_elim
    (λ f. inl (f.0.0, subst (λ (z : ℕ). Points links f.0.0 z) f.2 f.1))
    (λ none. inr (λ y h. none (y, x) h refl))
    (cases_some (λ (l : ℕ × ℕ). l.1 ≡ x) (λ l. cases_eq l.1 x) links)

pub cases_sink : (links : List (ℕ × ℕ)) (x : ℕ) → IsSink links x ⊎ ¬ IsSink links x
cases_sink links x = ⊎_elim
    (λ out. inr (λ sink. sink.1 out.0 out.1))
    (λ none. ⊎_elim (λ i. inl (i, none)) (λ no_in. inr (λ sink. no_in sink.0.0 sink.0.1)) (cases_in links x))
    (cases_out links x)

pub cases_can_turn : (n d : ℕ) (m : Moment) (x : ℕ) → CanTurn n d m x ⊎ ¬ CanTurn n d m x
cases_can_turn n d m x = ⊎_elim
    (λ e. inr (λ can. can.not_destination e))
    (λ ne. ⊎_elim
    (λ l. ⊎_elim (λ s. inl (record { not_destination = ne; below_cap = l; sink = s })) (λ ns. inr (λ can. ns can.sink))
    (cases_sink m.links x))
    (λ high. inr (λ can. omega (arith, can.below_cap)))
    (cases_lt (count_at m x) n))
    (cases_eq x d)

cases_none : (n d : ℕ) (first : List (ℕ × ℕ)) → IsNet n first → (m : Moment) → m.links ≡ links_at first m.counts
    → ((x : ℕ) × CanTurn n d m x) ⊎ NoneCanTurn n d m
cases_none n d first net m e = ⊎_elim
    (λ f. inl (f.0, f.2))
    (λ none. inr (λ x can. none x (can_turn_below n d first net m e x can) can))
    (cases_below (CanTurn n d m) (cases_can_turn n d m) n)

-- a run of turns alone that ends at such a moment
pub record TurnsTo (n d : ℕ) (m : Moment) (End : Moment → Type 0) : Type 0 where
  pub entries : List Entry
  pub run : IsRun n d m entries
  pub turns_alone : turn_count entries ≡ length entries
  pub ends : End (after_all m entries)

pub no_turns : (n d : ℕ) (m : Moment) (End : Moment → Type 0) → End m → TurnsTo n d m End
no_turns n d m End ends = record { entries = []; run = tt; turns_alone = refl; ends = ends }

turn_entry : Moment → ℕ → Entry
turn_entry m x = record { worker = 0; node = x; reply = Turned (count_at m x + 1) }

pub turn_first : (n d : ℕ) (m : Moment) (End : Moment → Type 0) (x : ℕ) → CanTurn n d m x → x < n
    → TurnsTo n d (after_reply m x (Turned (count_at m x + 1))) End → TurnsTo n d m End
unfolding turn_entry
turn_first n d m End x can below rest = record {
  entries = turn_entry m x ∷ rest.entries;
  run = ((below, (can, refl)), rest.run);
  turns_alone =
      sum_by-cons (λ (e : Entry). cond (is_turned e.reply) 1 0) (turn_entry m x) rest.entries ∙ omega (
        arith,
        rest.turns_alone,
      );
  ends = rest.ends;
}

-- such a run at whose end no node can turn
abbrev pub Finish : ℕ → ℕ → Moment → Type 0
Finish n d m = TurnsTo n d m (NoneCanTurn n d)

finish_by : (n d : ℕ) (first : List (ℕ × ℕ)) → IsNet n first → (fuel : ℕ) (m : Moment) → IsLawfulAt n d first m
    → n * n < sum m.counts + fuel → Finish n d m
finish_by n d first net zero m at l = absurd (omega (arith, lawful_sum n d first m.counts at.lawful))
finish_by n d first net (suc fuel) m at l = ⊎_elim {C = Finish n d m}
    (λ f.
    let x : ℕ = f.0 in
    let can : CanTurn n d m x = f.1 in
    let k : ℕ = count_at m x + 1 in
    let below = can_turn_below n d first net m at.links x can in
    let adds = sum_after_reply m x (Turned k) (omega (arith, below, at.lawful.one_each)) in
    let rest =
    finish_by n d first net fuel (after_reply m x (Turned k)) (turn_keeps n d first net m at x k can) (omega (
      arith,
      adds,
    )) in
    turn_first n d m (NoneCanTurn n d) x can below rest)
    (λ none_left. no_turns n d m (NoneCanTurn n d) none_left)
    (cases_none n d first net m at.links)

pub finish : (n d : ℕ) (first : List (ℕ × ℕ)) → IsNet n first → (m : Moment) → IsLawfulAt n d first m → Finish n d m
finish n d first net m at = finish_by n d first net (suc (n * n)) m at (omega arith)

-- all counts 0: the first links, lawful
pub index-zeros : (n x : ℕ) → slice_index (replicate n 0) x ≡ 0
index-zeros n x =
    ⊎_elim (λ l. get_or-replicate n x 0 0 l) (λ h. get_or_past (replicate n 0) x 0 (omega (
      arith,
      length-replicate {A = ℕ} n 0,
    ))) (cases_lt x n)

pub links_at-zeros : (n : ℕ) (first : List (ℕ × ℕ)) → links_at first (replicate n 0) ≡ first
links_at-zeros n [] = refl
links_at-zeros n (l ∷ ls) = rw (link_at-same (replicate n 0) l (index-zeros n l.1 ∙ sym (index-zeros n l.0)))
    (ap (λ (r : List (ℕ × ℕ)). l ∷ r) (links_at-zeros n ls))

pub zeros_lawful : (n d : ℕ) (first : List (ℕ × ℕ)) → AreLawful n d first (replicate n 0)
zeros_lawful n d first = record {
  one_each = length-replicate {A = ℕ} n 0;
  destination = index-zeros n d;
  alone = λ x alone. index-zeros n x;
  capped = λ x. omega (arith, index-zeros n x);
  kept = All-from_Contains (IsKept (replicate n 0)) first (λ l h. inl (index-zeros n l.1 ∙ sym (index-zeros n l.0)));
}

pub settled_at_end : (n d : ℕ) (first : List (ℕ × ℕ)) → IsNet n first → d < n → (m : Moment) → IsLawfulAt n d first m
    → NoneCanTurn n d m → AreSettled n d first m.counts
settled_at_end n d first net below m at none_left = settled_from_none n d first net below m.counts at.lawful
    (λ x can. none_left x (record {
      not_destination = can.not_destination;
      below_cap = can.below_cap;
      sink =
          subst (λ (ls : List (ℕ × ℕ)). IsSink ls x) (sym at.links) can.sink;
    }))

pub settled_exists : (n d : ℕ) (first : List (ℕ × ℕ)) → IsNet n first → d < n → (c : List ℕ) × AreSettled n d first c
settled_exists n d first net below =
    let start : IsLawfulAt n d first (moment_of first (replicate n 0)) =
    record { links = refl; lawful = zeros_lawful n d first } in
    let f = finish n d first net (moment_of first (replicate n 0)) start in
    let end = run_keeps n d first net (moment_of first (replicate n 0)) start f.entries f.run in (
      (after_all (moment_of first (replicate n 0)) f.entries).counts,
      settled_at_end n d first net below
          (after_all (moment_of first (replicate n 0)) f.entries) end f.ends,
    )

pub moment_path : (m k : Moment) → m.links ≡ k.links → m.counts ≡ k.counts → m ≡ k
moment_path m k e f = λ i. record { links = e i; counts = f i }

-- every run that ends none_left ends at one moment
pub ends_alike : (n d : ℕ) (first : List (ℕ × ℕ)) → IsNet n first → d < n → (m k : Moment) → IsLawfulAt n d first m
    → IsLawfulAt n d first k → NoneCanTurn n d m → NoneCanTurn n d k → m ≡ k
ends_alike n d first net below m k at bt sm sk =
    let same =
    settled_unique n d first m.counts k.counts (settled_at_end n d first net below m at sm)
    (settled_at_end n d first net below k bt sk) in
    moment_path m k (at.links ∙ ap (links_at first) same ∙ sym bt.links) same
