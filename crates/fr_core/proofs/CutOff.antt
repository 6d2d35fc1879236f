-- Nodes that have turned and are connected to no others: they are given the cap, and no node can turn afterwards that could not before.
use Rattle.std.proofs.Common.{All, Contains, List, ap, arith, eqb, inl, inr, map, slice_index, sym, ℕ, ⊎_elim, ◌<◌, ◌≡◌}
use Rattle.std.proofs.Common.{◌∙◌}
use Rattle.std.proofs.Math.ListN.{get_or-map}
use Rattle.std.proofs.lemmas.Bool.{cases_eq, cond-false, ne_eqb}
use Rattle.std.proofs.lemmas.List.{length-map}
use Rattle.std.proofs.lemmas.List.Elements.{All-contains, All-from_get_or, Contains-get_or}
use Rattle.fr_core.proofs.Sinks.{sink_from_bounds, sink_meets_bounds}
use Rattle.fr_core.proofs.Turning.{All-from_Contains}
use Rattle.fr_core.specs.Bounds.{MeetsBounds}
use Rattle.fr_core.specs.CutOff.{AreApart, HasTurned}
use Rattle.fr_core.specs.History.{moment_of}
use Rattle.fr_core.specs.Legal.{CanTurn}
use Rattle.fr_core.specs.Worklist.{AreLater}
use Rattle.fr_graph.proofs.Neighbours.{in_of_row, out_of_row, row_of_in, row_of_out}
use Rattle.fr_graph.specs.Counts.{AreLawful, IsKept}
use Rattle.fr_graph.specs.Links.{IsNet, Joins}
use Rattle.fr_graph.specs.Rows.{row}
use Rattle.fr_graph.specs.Turns.{set_to}
use Rattle.fr_graph.specs.declared.first.First.{First}
use Rattle.fr_graph.specs.declared.first.First.TheVariants.{Inward, Outward}

entry_joins : (n : ℕ) (first : List (ℕ × ℕ)) (x : ℕ) (e : ℕ × First) → Contains (row n first x) e → Joins first x e.0
entry_joins n first x (w, Outward) h = inl (out_of_row n first x w h)
entry_joins n first x (w, Inward) h = inr (in_of_row n first x w h)

module _ (first : List (ℕ × ℕ)) (cap : ℕ) (c : List ℕ) where
  at_node : (x : ℕ) → slice_index (map (set_to cap) c) x ≡ set_to cap (slice_index c x)
  at_node x = get_or-map (set_to cap) c x 0

  still : (x : ℕ) → slice_index c x ≡ 0 → slice_index (map (set_to cap) c) x ≡ 0
  still x none = at_node x ∙ ap (set_to cap) none

  turned : (x : ℕ) → 0 < slice_index c x → slice_index (map (set_to cap) c) x ≡ cap
  turned x some =
      at_node x ∙ cond-false (eqb (slice_index c x) 0) 0 cap (ne_eqb (slice_index c x) 0 (λ e. omega (arith, e, some)))

  -- a neighbour of a node that has not turned has not turned
  neighbour_still : AreApart first c → (x w : ℕ) → Joins first x w → slice_index c x ≡ 0 → slice_index c w ≡ 0
  neighbour_still apart x w h none =
      ⊎_elim (λ e. e) (λ some. absurd
      (omega (arith, none, apart w x (⊎_elim (λ p. inr p) (λ p. inl p) h) (omega (arith, some)))))
      (cases_eq (slice_index c w) 0)

  kept_capped : All (IsKept c) first → AreApart first c → All (IsKept (map (set_to cap) c)) first
  kept_capped kept apart = All-from_Contains (IsKept (map (set_to cap) c)) first (λ l h.
      elim (cases_eq (slice_index c l.0) 0) [
        | inl none ↦ inl (still l.1 (neighbour_still apart l.0 l.1 (inl h) none) ∙ sym (still l.0 none))
        | inr some ↦ let here : 0 < slice_index c l.0 =
            omega (arith, some) in inl (turned l.1 (apart l.0 l.1 (inl h) here) ∙ sym (turned l.0 here))
      ])

module _ (n d : ℕ) (first : List (ℕ × ℕ)) (c : List ℕ) (lawful : AreLawful n d first c) (apart : AreApart first c) where
  capped_lawful : AreLawful n d first (map (set_to n) c)
  capped_lawful = record {
    one_each = length-map c (set_to n) ∙ lawful.one_each;
    destination = still first n c d lawful.destination;
    alone = λ x none. still first n c x (lawful.alone x none);
    capped = λ x. elim (cases_eq (slice_index c x) 0) [
      | inl none ↦ omega (arith, still first n c x none)
      | inr some ↦ omega (arith, turned first n c x (omega (arith, some)))
    ];
    kept = kept_capped first n c lawful.kept apart;
  }

  pub capped_later : AreLater (record { nodes = n; links = first }) d c (map (set_to n) c)
  capped_later = record {
    lawful = capped_lawful;
    forth = λ x. elim (cases_eq (slice_index c x) 0) [
      | inl none ↦ omega (arith, none)
      | inr some ↦ omega (arith, turned first n c x (omega (arith, some)), lawful.capped x)
    ];
  }

  -- a node that can turn has not turned, and its links are as they were
  pub could_before : (x : ℕ) → CanTurn n d (moment_of first (map (set_to n) c)) x → CanTurn n d (moment_of first c) x
  could_before x now =
      let rests : slice_index c x ≡ 0 =
      ⊎_elim (λ e. e) (λ some. absurd (omega (arith, now.below_cap, turned first n c x (omega (arith, some)))))
      (cases_eq (slice_index c x) 0) in
      let b = sink_meets_bounds first (map (set_to n) c) (kept_capped first n c lawful.kept apart) x now.sink in
      let bounds : MeetsBounds first c x = record {
        linked = b.linked;
        along =
            λ w h. omega (arith, b.along w h, still first n c w (neighbour_still first n c apart x w (inl h) rests));
        against = λ w h. omega (arith, rests);
      } in
      record {
        not_destination = now.not_destination;
        below_cap = omega (arith, now.below_cap, rests);
        sink = sink_from_bounds first c lawful.kept x bounds;
      }

-- the same, row by row
pub row_apart : (n : ℕ) (first : List (ℕ × ℕ)) (c : List ℕ) → AreApart first c → (x : ℕ) → 0 < slice_index c x
    → All (HasTurned c) (row n first x)
row_apart n first c apart x some = All-from_get_or (HasTurned c) (row n first x) (0, Outward)
    (λ i l. apart x _ (entry_joins n first x _ (Contains-get_or (row n first x) i (0, Outward) l)) some)

pub apart_by_rows : (n : ℕ) (first : List (ℕ × ℕ)) (c : List ℕ) → IsNet n first
    → ((x : ℕ) → 0 < slice_index c x → All (HasTurned c) (row n first x)) → AreApart first c
apart_by_rows n first c net each x w (inl h) some =
    All-contains (HasTurned c) (row n first x) (w, Outward) (each x some) (row_of_out n first x w net h)
apart_by_rows n first c net each x w (inr h) some =
    All-contains (HasTurned c) (row n first x) (w, Inward) (each x some) (row_of_in n first x w net h)
