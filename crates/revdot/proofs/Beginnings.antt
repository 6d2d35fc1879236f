-- The links before a round, from those after it.
use Rattle.std.proofs.Common.{◌≡◌, ◌∙◌, ℕ, ◌<◌, List, [], ◌∷◌, map, slice_index, arith, eq-eqb, ne_eqb, inl, inr, subst}
use Rattle.std.proofs.Common.{sym}
use Rattle.std.proofs.lemmas.Bool.{cond-false, cond-true}
use Rattle.std.proofs.lemmas.List.Elements.{All-contains}
use Rattle.std.specs.List.{Contains}
use Rattle.fr_graph.specs.Counts.{AreLawful, IsKept, links_at}
use Rattle.fr_graph.specs.Links.{IsNet, Points, HaveSameLinks}
use Rattle.fr_graph.proofs.Giving.{Points-links_at_from, Points-links_at_back}
use Rattle.fr_graph.proofs.Members.{Contains-cases, Contains-head, Contains-none, Contains-tail}
use Rattle.fr_graph.proofs.Ordering.{into_order, out_of_order}
use Rattle.fr_core.proofs.Unique.{settled_lawful}
use Rattle.fr_route.specs.States.{State, IsRound}
use Rattle.revdot.specs.Strips.{first_link}

contains_map : (f : ℕ × ℕ → ℕ × ℕ) (xs : List (ℕ × ℕ)) (x : ℕ × ℕ) → Contains xs x → Contains (map f xs) (f x)
contains_map f [] x has = absurd (Contains-none x has)
contains_map f (y ∷ ys) x has =
    elim (Contains-cases x y ys has) [
      | inl here ↦ subst (λ (z : ℕ × ℕ). Contains (f y ∷ map f ys) (f z)) here (Contains-head (f y) (map f ys))
      | inr later ↦ Contains-tail (f x) (f y) (map f ys) (contains_map f ys x later)
    ]

map_contains : (f : ℕ × ℕ → ℕ × ℕ) (xs : List (ℕ × ℕ)) (z : ℕ × ℕ) → Contains (map f xs) z
    → (x : ℕ × ℕ) × Contains xs x × (f x ≡ z)
map_contains f [] z has = absurd (Contains-none z has)
map_contains f (y ∷ ys) z has =
    elim (Contains-cases z (f y) (map f ys) has) [
      | inl here ↦ (y, Contains-head y ys, here)
      | inr later ↦ let h = map_contains f ys z later in (h.0, Contains-tail h.0 y ys h.1, h.2)
    ]

first-same : (c : List ℕ) (a b : ℕ) → slice_index c a ≡ slice_index c b → first_link c (a, b) ≡ (a, b)
first-same c a b e = cond-true _ _ _ (eq-eqb (slice_index c a) (slice_index c b) e)

first-turned : (c : List ℕ) (a b : ℕ) → ¬ (slice_index c a ≡ slice_index c b) → first_link c (a, b) ≡ (b, a)
first-turned c a b ne = cond-false _ _ _ (ne_eqb (slice_index c a) (slice_index c b) ne)

module _ (n d : ℕ) (first : List (ℕ × ℕ)) (s : State) (net : IsNet n first) (below : d
    < n) (round : IsRound n d first s) where
  back : (u v : ℕ) → Points (map (first_link s.counts) s.links) u v → Points first u v
  back u v has =
      let m = map_contains (first_link s.counts) s.links (u, v) has in
      let a = m.0.0 in
      let b = m.0.1 in
      let at : Points s.links a b = m.1 in
      let given : Points (links_at first s.counts) a b = out_of_order (links_at first s.counts) (a, b)
      (subst (λ (ls : List (ℕ × ℕ)). Points ls a b) round.links at) in
      elim (Points-links_at_from first s.counts a b given) [
        | inl same ↦ subst (Contains first) (sym (first-same s.counts a b (sym same.1)) ∙ m.2) same.0
        | inr turned ↦ subst (Contains first) (sym (first-turned s.counts a b (λ e. omega (arith, e, turned.1)))
            ∙ m.2) turned.0
      ]

  into : (u v : ℕ) → Points first u v → Points (map (first_link s.counts) s.links) u v
  into u v has =
      let lawful : AreLawful n d first s.counts = settled_lawful n d first net below s.counts round.counts in
      let kept : IsKept s.counts (u, v) = All-contains (IsKept s.counts) first (u, v) lawful.kept has in
      elim kept [
        | inl same ↦
            let given : Points (links_at first s.counts) u v =
            Points-links_at_back first s.counts u v (inl (has, same)) in
            let at : Points s.links u v =
            subst (λ (ls : List (ℕ × ℕ)). Points ls u v) (sym round.links) (into_order (links_at first s.counts) (
              u,
              v,
            ) given) in
            subst (Contains (map (first_link s.counts) s.links)) (first-same s.counts u v (sym same))
            (contains_map (first_link s.counts) s.links (u, v) at)
        | inr turned ↦
            let given : Points (links_at first s.counts) v u =
            Points-links_at_back first s.counts v u (inr (has, turned)) in
            let at : Points s.links v u =
            subst (λ (ls : List (ℕ × ℕ)). Points ls v u) (sym round.links) (into_order (links_at first s.counts) (
              v,
              u,
            ) given) in
            subst (Contains (map (first_link s.counts) s.links)) (first-turned s.counts v u (λ e. omega (
              arith,
              e,
              turned,
            )))
            (contains_map (first_link s.counts) s.links (v, u) at)
      ]

  pub begins : HaveSameLinks (map (first_link s.counts) s.links) first
  begins u v = (back u v, into u v)
