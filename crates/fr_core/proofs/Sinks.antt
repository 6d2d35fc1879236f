-- A sink by counts.
use Rattle.std.proofs.Common.{All, List, arith, inl, inr, slice_index, ℕ, ⊎_elim, ◌+◌, ◌≡◌, ◌⊎◌}
use Rattle.std.proofs.lemmas.List.Elements.{All-contains}
use Rattle.fr_core.specs.Bounds.{MeetsBounds}
use Rattle.fr_graph.proofs.Giving.{ComesFrom, Points-links_at_from, Points-links_at_same, Points-links_at_turned}
use Rattle.fr_graph.specs.Counts.{IsKept, links_at}
use Rattle.fr_graph.specs.Links.{Joins, Points}
use Rattle.fr_graph.specs.Turn.{IsSink}

pub kept_at : (first : List (ℕ × ℕ)) (c : List ℕ) → All (IsKept c) first → (u v : ℕ) → Points first u v
    → (slice_index c v ≡ slice_index c u) ⊎ (slice_index c v ≡ slice_index c u + 1)
kept_at first c meets u v h = All-contains (IsKept c) first (u, v) meets h

-- each first link of lawful counts is kept, in one direction
pub links_at_keeps : (first : List (ℕ × ℕ)) (c : List ℕ) → All (IsKept c) first → (u v : ℕ) → Points first u v
    → Joins (links_at first c) u v
links_at_keeps first c meets u v h = ⊎_elim (λ e. inl (Points-links_at_same first c u v h e))
    (λ e. inr (Points-links_at_turned first c v u h e)) (kept_at first c meets u v h)

-- a linked node is a sink where no link points away from it
pub sink_from_none_out : (first : List (ℕ × ℕ)) (c : List ℕ) → All (IsKept c) first → (x w : ℕ) → Joins first x w
    → ((y : ℕ) → ¬ Points (links_at first c) x y) → IsSink (links_at first c) x
sink_from_none_out first c meets x w linked none = (
  ⊎_elim
      (λ h. ⊎_elim (λ o. absurd (none w o)) (λ i. (w, i)) (links_at_keeps first c meets x w h))
      (λ h. ⊎_elim (λ i. (w, i)) (λ o. absurd (none w o)) (links_at_keeps first c meets w x h)) linked,
  none,
)

pub sink_meets_bounds : (first : List (ℕ × ℕ)) (c : List ℕ) → All (IsKept c) first → (x : ℕ)
    → IsSink (links_at first c) x → MeetsBounds first c x
sink_meets_bounds first c meets x sink = record {
  linked =
      ⊎_elim (λ h. (sink.0.0, inr h.0)) (λ h. (sink.0.0, inl h.0)) (Points-links_at_from first c sink.0.0 x sink.0.1);
  along =
      λ w h. ⊎_elim (λ e. absurd (sink.1 w (Points-links_at_same first c x w h e))) (λ e. omega arith)
      (kept_at first c meets x w h);
  against =
      λ w h. ⊎_elim (λ e. omega arith) (λ e. absurd (sink.1 w (Points-links_at_turned first c x w h e)))
      (kept_at first c meets w x h);
}

pub sink_from_bounds : (first : List (ℕ × ℕ)) (c : List ℕ) → All (IsKept c) first → (x : ℕ) → MeetsBounds first c x
    → IsSink (links_at first c) x
sink_from_bounds first c meets x b = (into b.linked, λ w h. out w (Points-links_at_from first c x w h))
  where
    into : (w : ℕ) × Joins first x w → (w : ℕ) × Points (links_at first c) w x
    into (w, inl h) = (
      w,
      ⊎_elim (λ e. absurd (omega (arith, b.along w h))) (λ e. Points-links_at_turned first c w x h e)
          (kept_at first c meets x w h),
    )
    into (w, inr h) = (
      w,
      ⊎_elim (λ e. Points-links_at_same first c w x h e) (λ e. absurd (omega (arith, b.against w h)))
          (kept_at first c meets w x h),
    )

    out : (w : ℕ) → ComesFrom first c x w → ⊥
    out w (inl h) = omega (arith, b.along w h.0, h.1)
    out w (inr h) = omega (arith, b.against w h.0, h.1)
