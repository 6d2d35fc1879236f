-- Which nodes are connected to the destination.
use Rattle.std.proofs.Common.{All, List, [], arith, inl, inr, refl, slice_index, subst, sym, ℕ, ⊎_elim, ◌+◌, ◌<◌, ◌↔◌}
use Rattle.std.proofs.Common.{◌∷◌, ◌≡◌, ◌⊎◌}
use Rattle.fr_core.proofs.Sinks.{links_at_keeps}
use Rattle.fr_core.proofs.Unique.{IsLinkedCount, joined_count_below, of_linked}
use Rattle.fr_core.specs.Settled.{AreSettled}
use Rattle.fr_core.specs.Walks.{IsConnected, IsUndirectedWalk}
use Rattle.fr_graph.proofs.Giving.{Points-links_at_from}
use Rattle.fr_graph.specs.Counts.{IsKept, links_at}
use Rattle.fr_graph.specs.Links.{IsNet, Joins, Points}

-- the end of a walk is its start, or it has a link
pub walk_linked : (links : List (ℕ × ℕ)) (u : ℕ) (vs : List ℕ) (k x : ℕ) → IsUndirectedWalk links u vs k x
    → (x ≡ u) ⊎ ((w : ℕ) × Joins links x w)
walk_linked links u [] k x w = inl w.0
walk_linked links u (v ∷ vs) k x (inl w) =
    ⊎_elim (λ e. inr (u, inr (subst (λ (z : ℕ). Points links u z) (sym e) w.0))) inr
    (walk_linked links v vs w.1.0 x w.1.2)
walk_linked links u (v ∷ vs) k x (inr w) =
    ⊎_elim (λ e. inr (u, inl (subst (λ (z : ℕ). Points links z u) (sym e) w.0))) inr (walk_linked links v vs k x w.1)

module _ (n d : ℕ) (first : List (ℕ × ℕ)) (net : IsNet n first) (in_range : d
    < n) (c : List ℕ) (settled : AreSettled n d first c) where
  -- joined or not, by counts
  pub joined_by_counts : (x : ℕ) → IsConnected first d x
      → (x ≡ d) ⊎ (((w : ℕ) × Joins first x w) × (slice_index c x < n))
  joined_by_counts x joined = ⊎_elim inl (λ h. inr (h, joined_count_below n d first net in_range c settled x joined))
      (walk_linked first d joined.1.0 joined.0 x joined.1.1)

  pub joined_from_counts : (x : ℕ) → (x ≡ d) ⊎ (((w : ℕ) × Joins first x w) × (slice_index c x < n))
      → IsConnected first d x
  joined_from_counts x (inl e) = (0, ([], (e, refl)))
  joined_from_counts x (inr (h, l)) = go (of_linked n d first net in_range c settled x h.0 h.1)
    where
      go : IsLinkedCount n d first x (slice_index c x) → IsConnected first d x
      go (inl least) = (slice_index c x, least.reached)
      go (inr apart) = absurd (omega (arith, apart.1))

-- a step more at the start of a walk
joined_step : (links : List (ℕ × ℕ)) (u v x : ℕ) → Joins links u v → IsConnected links v x → IsConnected links u x
joined_step links u v x (inl h) (away, (vs, w)) = (away + 1, (v ∷ vs, inl (h, (away, refl, w))))
joined_step links u v x (inr h) (away, (vs, w)) = (away, (v ∷ vs, inr (h, w)))

-- a walk over links that join no more nodes than others do is a walk over those
pub joined_carries : (a b : List (ℕ × ℕ)) → ((u v : ℕ) → Joins a u v → Joins b u v)
    → (u : ℕ) (vs : List ℕ) (away x : ℕ) → IsUndirectedWalk a u vs away x → IsConnected b u x
joined_carries a b to u [] away x w = (0, ([], (w.0, refl)))
joined_carries a b to u (v ∷ vs) away x (inl w) =
    joined_step b u v x (to u v (inl w.0)) (joined_carries a b to v vs w.1.0 x w.1.2)
joined_carries a b to u (v ∷ vs) away x (inr w) =
    joined_step b u v x (to u v (inr w.0)) (joined_carries a b to v vs away x w.1)

-- the links that lawful counts give join the nodes that the first links join
pub joins_at : (first : List (ℕ × ℕ)) (c : List ℕ) (u v : ℕ) → Joins (links_at first c) u v → Joins first u v
joins_at first c u v (inl h) = ⊎_elim (λ p. inl p.0) (λ p. inr p.0) (Points-links_at_from first c u v h)
joins_at first c u v (inr h) = ⊎_elim (λ p. inr p.0) (λ p. inl p.0) (Points-links_at_from first c v u h)

pub joins_kept : (first : List (ℕ × ℕ)) (c : List ℕ) → All (IsKept c) first → (u v : ℕ) → Joins first u v
    → Joins (links_at first c) u v
joins_kept first c kept u v (inl h) = links_at_keeps first c kept u v h
joins_kept first c kept u v (inr h) = ⊎_elim inr inl (links_at_keeps first c kept v u h)

pub joined_at : (first : List (ℕ × ℕ)) (c : List ℕ) → All (IsKept c) first → (d x : ℕ)
    → IsConnected first d x ↔ IsConnected (links_at first c) d x
joined_at first c kept d x = (
  λ j. joined_carries first (links_at first c) (joins_kept first c kept) d j.1.0 j.0 x j.1.1,
  λ j. joined_carries (links_at first c) first (joins_at first c) d j.1.0 j.0 x j.1.1,
)
