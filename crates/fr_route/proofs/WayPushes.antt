-- The ways of a settled network as a table: each names a node, and no list is longer than there are nodes. And the
-- pushes that lead to this table.
use Rattle.std.proofs.Common.{[], Bool, Contains, List, ap, arith, eqb, get_or, inl, inr, length, map, ne_eqb, refl}
use Rattle.std.proofs.Common.{slice_index}
use Rattle.std.proofs.Common.{subst, sym, ℕ, ⊎_elim, ◌^◌, ◌+◌, ◌++◌, ◌<◌, ◌∙◌, ◌∷◌, ◌≡◌, ◌≤◌}
use Rattle.std.specs.List.{IsDistinct, filter}
use Rattle.std.proofs.lemmas.Bool.{cases_lt}
use Rattle.std.proofs.lemmas.List.{get_or_past, get_or_default, length-append, length-map}
use Rattle.std.proofs.lemmas.List.FromFn.{length-range_with_len}
use Rattle.std.proofs.lemmas.List.Sums.{count_by-le-length, length-filter}
use Rattle.std.proofs.lemmas.Map.Keys.{IsDistinct-from_apart}
use Rattle.fr_core.proofs.Pigeons.{distinct_length}
use Rattle.fr_graph.specs.Limits.{most_nodes}
use Rattle.fr_graph.specs.Links.{IsNet}
use Rattle.fr_graph.proofs.Linking.{link_below}
use Rattle.fr_nearest.specs.Ways.{IsNearer}
use Rattle.fr_nearest.proofs.Walking.{one_distance}
use Rattle.fr_tables.proofs.Members.{Contains-none}
use Rattle.fr_ways.specs.Faults.{ArePhases, ArePushes}
use Rattle.fr_ways.specs.Phases.{empties, growing_nodes, grows, growths, kept, nodes_of, sheds, shrinking_nodes}
use Rattle.fr_ways.specs.Phases.{shrinks}
use Rattle.fr_ways.specs.Ways.{IsInRange, ways}
use Rattle.fr_ways.specs.declared.plan.Pushes.{Pushes}
use Rattle.fr_ways.specs.declared.plan.TwoPhases.{TwoPhases}
use Rattle.fr_route.specs.NodeWays.{AreNodeWays, AreWaysBelow}
use Rattle.fr_route.specs.States.{State}
use Rattle.fr_route.specs.WayLists.{AreListed, paired, pairs}
use Rattle.fr_route.specs.WayPushes.{AreWayPushesRefused, IsPhasesText}
use Rattle.fr_route.proofs.NodeWays.{ways_below_unique, ways_pushed}

module _ (s : State) (net : IsNet s.nodes s.links) where
  -- each way of a node is a node
  way_low : (x : ℕ) (list : List ℕ) → AreNodeWays s x list → (y : ℕ) → Contains list y → y < s.nodes
  way_low x list are y way = (link_below s.nodes s.links x y net ((are.just y).0 way).link).1

  -- no node comes before itself
  apart : (w : ℕ) → ¬ IsNearer s.links s.dest w w
  apart w near = ⊎_elim
      (λ less. omega (arith, less, one_distance s.links s.dest w near.near near.far near.this near.other))
      (λ same. omega (arith, same.1))
      near.before

  pub ways_short : (x : ℕ) (list : List ℕ) → AreNodeWays s x list → length list ≤ s.nodes
  ways_short x list are = distinct_length s.nodes list once (way_low x list are)
    where
      once : IsDistinct eqb list
      once = IsDistinct-from_apart eqb list (λ i j d lt low. ne_eqb (get_or list i d) (get_or list j d) (λ e.
          let first : get_or list i d ≡ slice_index list i = get_or_default list i d 0 (omega (arith, lt, low)) in
          let second : get_or list j d ≡ slice_index list j = get_or_default list j d 0 low in
          let near : IsNearer s.links s.dest (get_or list i d) (get_or list j d) =
          rw (first, second) (are.order i j lt low) in
          apart (get_or list j d) (subst (λ (w : ℕ). IsNearer s.links s.dest w (get_or list j d)) e near)))

  pub ways_in_range : (n : ℕ) (table : List (List ℕ)) → s.nodes ≤ n → AreWaysBelow s n table → IsInRange table
  ways_in_range n table enough are x y sends = elim (cases_lt x (length table)) [
    | inl low ↦
        let each = are.each x (omega (arith, low, are.one_each)) in
        omega (arith, way_low x (ways table x) each y sends, are.one_each, enough)
    | inr past ↦ absurd (Contains-none y
        (subst (λ (list : List ℕ). Contains list y) (get_or_past table x [] past) sends))
  ]

  -- a number that is not a node has no ways
  none_outside : (x : ℕ) → s.nodes ≤ x → AreNodeWays s x []
  none_outside x out = record {
    just = λ w. (
      λ h. absurd (Contains-none w h),
      λ way. absurd (omega (arith, (link_below s.nodes s.links x w net way.link).0, out)),
    );
    order = λ i j lt low. absurd (omega (arith, low));
  }

  pub ways_longer : (n : ℕ) (table : List (List ℕ)) → s.nodes ≤ n → AreWaysBelow s n table
      → AreWaysBelow s (n + 1) (table ++ [] ∷ [])
  ways_longer n table enough are =
      let more = ways_pushed (AreNodeWays s) table [] n are.one_each are.each (none_outside n enough) in
      record { one_each = more.0; each = more.1 }

-- each node with its list
paired_with : (list_of : ℕ → List ℕ) (xs : List ℕ) → paired xs (map list_of xs) ≡ map (λ x. (x, list_of x)) xs
paired_with list_of [] = refl
paired_with list_of (x ∷ xs) = ap (λ rest. (x, list_of x) ∷ rest) (paired_with list_of xs)

pairs_are : (nodes : List ℕ) (list_of : ℕ → List ℕ) (pushes : Pushes) → ArePushes nodes list_of pushes
    → pairs pushes ≡ map (λ x. (x, list_of x)) nodes
pairs_are nodes list_of pushes are = rw (are.these, are.lists) (paired_with list_of nodes)

listed_are : (nodes : List ℕ) (list_of : ℕ → List ℕ) (pushes : Pushes) → ArePushes nodes list_of pushes
    → length nodes < 2 ^ 32 → AreListed pushes
listed_are nodes list_of pushes are few = record {
  one_each = ap length are.lists ∙ (length-map nodes list_of ∙ sym (ap length are.these));
  few = rw are.these few;
}

module _ (old new : List (List ℕ)) (phases : TwoPhases) (are : ArePhases old new phases) where
  pub shrinks_are : pairs phases.shrink ≡ shrinks old new
  shrinks_are = pairs_are (shrinking_nodes old new) (kept old new) phases.shrink are.shrink

  pub growths_are : pairs phases.grow ≡ growths old new
  growths_are = pairs_are (growing_nodes old new) (ways new) phases.grow are.grow

  few_of : (p : ℕ → Bool) → length (filter p (nodes_of new)) ≤ length new
  few_of p = omega (
    arith,
    length-filter p (nodes_of new),
    count_by-le-length p (nodes_of new),
    length-range_with_len 0 (length new),
  )

  -- the lists of both phases are short
  pub phases_listed : length new ≤ most_nodes → AreListed phases.shrink × AreListed phases.grow
  phases_listed few = (
    listed_are (shrinking_nodes old new) (kept old new) phases.shrink are.shrink (omega (
      arith,
      few,
      length-append (filter (sheds old new) (nodes_of new)) (filter (empties old new) (nodes_of new)),
      few_of (sheds old new),
      few_of (empties old new),
    )),
    listed_are (growing_nodes old new) (ways new) phases.grow are.grow (omega (arith, few, few_of (grows old new))),
  )

-- the pushes have one text
pub phases_text_unique : (text_for : List (ℕ × List ℕ) → List (ℕ × List ℕ) → List ℕ) (s : State)
    (table : List (List ℕ)) (t u : List ℕ) → IsPhasesText text_for s table t → IsPhasesText text_for s table u → t ≡ u
phases_text_unique text_for s table t u a b =
    a.2 ∙ (ap (λ (wanted : List (List ℕ)). text_for (shrinks table wanted) (growths table wanted))
    (ways_below_unique s s.nodes a.0 b.0 a.1 b.1) ∙ sym b.2)

-- a table is refused with one number, and for the same nodes
pub way_refusal_unique : (s : State) (table : List (List ℕ)) (j k : ℕ) (xs ys : List ℕ)
    → AreWayPushesRefused s table j xs → AreWayPushesRefused s table k ys → (j ≡ k) × (xs ≡ ys)
way_refusal_unique s table j k xs ys (inl a) (inl b) = (a.1 ∙ sym b.1, a.2 ∙ sym b.2)
way_refusal_unique s table j k xs ys (inl a) (inr b) = absurd (omega (arith, a.0, b.0))
way_refusal_unique s table j k xs ys (inr a) (inl b) = absurd (omega (arith, a.0, b.0))
way_refusal_unique s table j k xs ys (inr a) (inr b) = (a.2 ∙ sym b.2, a.3 ∙ sym b.3)
