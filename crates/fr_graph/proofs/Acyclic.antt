-- The links that counts give contain no cycle: along such a link the counts never rise.
use Rattle.std.proofs.Common.{List, [], ap, arith, inl, inr, slice_index, ℕ, ◌∷◌, ◌≤◌}
use Rattle.fr_graph.proofs.Giving.{ComesFrom, Points-links_at_from}
use Rattle.fr_graph.specs.Counts.{links_at}
use Rattle.fr_graph.specs.Links.{IsAcyclic, IsPath, Points, end_of}

step_falls : (first : List (ℕ × ℕ)) (c : List ℕ) (u v : ℕ) → ComesFrom first c u v → slice_index c v ≤ slice_index c u
step_falls first c u v (inl h) = omega (arith, h.1)
step_falls first c u v (inr h) = omega (arith, h.1)

-- if no link rises, no path rises
pub path_falls : (links : List (ℕ × ℕ)) (heights : List ℕ)
    → ((u v : ℕ) → Points links u v → slice_index heights v ≤ slice_index heights u) → (u : ℕ) (vs : List ℕ)
    → IsPath links u vs → slice_index heights (end_of u vs) ≤ slice_index heights u
path_falls links heights falls u [] path = omega arith
path_falls links heights falls u (v ∷ vs) path =
    omega (arith, path_falls links heights falls v vs path.1, falls u v path.0)

step_level : (first : List (ℕ × ℕ)) (c : List ℕ) (u v : ℕ) → ComesFrom first c u v → slice_index c u ≤ slice_index c v
    → Points first u v
step_level first c u v (inl h) l = h.0
step_level first c u v (inr h) l = absurd (omega (arith, h.1))

-- a path that comes back to its first count consists of first links
path_level : (first : List (ℕ × ℕ)) (c : List ℕ) (u : ℕ) (vs : List ℕ) → IsPath (links_at first c) u vs
    → slice_index c u ≤ slice_index c (end_of u vs) → IsPath first u vs
path_level first c u [] h l = tt
path_level first c u (v ∷ vs) h l =
    let from = Points-links_at_from first c u v h.0 in
    let falls =
    path_falls (links_at first c) c (λ x y p. step_falls first c x y (Points-links_at_from first c x y p)) v vs h.1 in
    let first_falls = step_falls first c u v from in
    (step_level first c u v from (omega (arith, falls)), path_level first c v vs h.1 (omega (arith, first_falls)))

pub links_at_acyclic : (first : List (ℕ × ℕ)) (c : List ℕ) → IsAcyclic first → IsAcyclic (links_at first c)
links_at_acyclic first c acyclic u [] h = h
links_at_acyclic first c acyclic u (v ∷ vs) h =
    acyclic u (v ∷ vs) (path_level first c u (v ∷ vs) h.0 (omega (arith, ap (slice_index c) h.1)), h.1)
