-- What one worker's loads of counts show.
use Rattle.std.proofs.Common.{All, List, arith, slice_index, ℕ, ⊎_elim, ◌+◌, ◌<◌, ◌≤◌}
use Rattle.fr_core.proofs.Sinks.{kept_at, sink_from_bounds}
use Rattle.fr_graph.proofs.Giving.{Points-links_at_same, Points-links_at_turned}
use Rattle.fr_graph.specs.Counts.{IsKept, links_at}
use Rattle.fr_graph.specs.Links.{Joins, Points}
use Rattle.fr_graph.specs.Turn.{IsSink}

-- a neighbour whose count misses its bound for an earlier count of x holds x
pub held_along : (first : List (ℕ × ℕ)) (c : List ℕ) → All (IsKept c) first → (x w had : ℕ) → had ≤ slice_index c x
    → Points first x w → slice_index c w < had + 1 → Points (links_at first c) x w
held_along first c kept x w had l h miss =
    ⊎_elim (λ e. Points-links_at_same first c x w h e) (λ e. absurd (omega arith)) (kept_at first c kept x w h)

pub held_against : (first : List (ℕ × ℕ)) (c : List ℕ) → All (IsKept c) first → (x w had : ℕ) → had ≤ slice_index c x
    → Points first w x → slice_index c w < had → Points (links_at first c) x w
held_against first c kept x w had l h miss =
    ⊎_elim (λ e. absurd (omega arith)) (λ e. Points-links_at_turned first c x w h e) (kept_at first c kept w x h)

-- bounds that were met by counts loaded earlier are met now, if x has kept its own
pub sink_from_seen : (first : List (ℕ × ℕ)) (c : List ℕ) → All (IsKept c) first → (x : ℕ) (seen : ℕ → ℕ)
    → ((w : ℕ) → seen w ≤ slice_index c w)
    → (w : ℕ) × Joins first x w → ((w : ℕ) → Points first x w → slice_index c x + 1 ≤ seen w)
    → ((w : ℕ) → Points first w x → slice_index c x ≤ seen w) → IsSink (links_at first c) x
sink_from_seen first c kept x seen low linked along against = sink_from_bounds first c kept x (record {
  linked = linked;
  along = λ w h. omega (arith, along w h, low w);
  against = λ w h. omega (arith, against w h, low w);
})
