-- Lawful counts are at most each away number.
use Rattle.std.proofs.Common.{All, List, [], ap, arith, inl, inr, slice_index, ℕ, ⊎_elim, ◌+◌, ◌∷◌, ◌≤◌}
use Rattle.fr_core.proofs.Sinks.{kept_at}
use Rattle.fr_core.specs.Walks.{HasUndirectedWalk, IsUndirectedWalk}
use Rattle.fr_graph.specs.Counts.{AreLawful, IsKept}
use Rattle.fr_graph.specs.Links.{Points}

-- a step along a link raises the count by at most one, and one against it never raises it
pub record Climbs (first : List (ℕ × ℕ)) (c : List ℕ) : Type 0 where
  pub along : (u v : ℕ) → Points first u v → slice_index c v ≤ slice_index c u + 1
  pub against : (u v : ℕ) → Points first v u → slice_index c v ≤ slice_index c u

pub climbs_from_meets : (first : List (ℕ × ℕ)) (c : List ℕ) → All (IsKept c) first → Climbs first c
climbs_from_meets first c meets = record {
  along = λ u v h. ⊎_elim (λ e. omega arith) (λ e. omega arith) (kept_at first c meets u v h);
  against = λ u v h. ⊎_elim (λ e. omega arith) (λ e. omega arith) (kept_at first c meets v u h);
}

pub walk_climbs : (first : List (ℕ × ℕ)) (c : List ℕ) → Climbs first c → (u : ℕ) (vs : List ℕ) (away x : ℕ)
    → IsUndirectedWalk first u vs away x → slice_index c x ≤ slice_index c u + away
walk_climbs first c climbs u [] away x h = omega (arith, ap (slice_index c) h.0)
walk_climbs first c climbs u (v ∷ vs) away x (inl h) =
    omega (arith, climbs.along u v h.0, walk_climbs first c climbs v vs h.1.0 x h.1.2, h.1.1)
walk_climbs first c climbs u (v ∷ vs) away x (inr h) =
    omega (arith, climbs.against u v h.0, walk_climbs first c climbs v vs away x h.1)

pub lawful_at_most : (n d : ℕ) (first : List (ℕ × ℕ)) (c : List ℕ) → AreLawful n d first c → (x k : ℕ)
    → HasUndirectedWalk first d x k → slice_index c x ≤ k
lawful_at_most n d first c lawful x k walk =
    omega (arith, walk_climbs first c (climbs_from_meets first c lawful.kept) d walk.0 k x walk.1, lawful.destination)
