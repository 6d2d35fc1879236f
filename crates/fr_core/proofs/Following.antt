-- A path along links without a closed walk never comes back, so it is shorter than the number of nodes.
use Rattle.std.proofs.Common.{Contains, List, [], arith, eqb, length, subst, sym, ℕ, ⊎_elim, ◌<◌, ◌∷◌, ◌≡◌}
use Rattle.std.specs.List.{IsDistinct}
use Rattle.fr_core.proofs.Pigeons.{IsDistinct-more, IsDistinct-none, distinct_length}
use Rattle.fr_graph.proofs.Members.{Contains-cases, Contains-none}
use Rattle.fr_graph.specs.Links.{IsAcyclic, IsPath, Points, end_of}

-- the part of a path up to a node on it
prefix_to : (links : List (ℕ × ℕ)) (s : ℕ) (vs : List ℕ) (u : ℕ) → IsPath links s vs → Contains vs u → (v : ℕ)
    × (ws : List ℕ) × IsPath links s (v ∷ ws) × (end_of v ws ≡ u)
prefix_to links s [] u path h = absurd (Contains-none u h)
prefix_to links s (v ∷ vs) u path h = ⊎_elim
    (λ e. (v, [], (path.0, tt), e))
    (λ r. let p = prefix_to links v vs u path.1 r in (v, p.0 ∷ p.1, (path.0, p.2), p.3))
    (Contains-cases u v vs h)

pub path_distinct : (links : List (ℕ × ℕ)) → IsAcyclic links → (u : ℕ) (vs : List ℕ) → IsPath links u vs
    → IsDistinct eqb (u ∷ vs)
path_distinct links acyclic u [] path = IsDistinct-more u [] (λ y h. absurd (Contains-none y h)) IsDistinct-none
path_distinct links acyclic u (v ∷ vs) path = IsDistinct-more u (v ∷ vs)
    (λ y h e. let p = prefix_to links u (v ∷ vs) y path h in acyclic u (p.0 ∷ p.1) (
      p.2,
      subst (λ (z : ℕ). end_of p.0 p.1 ≡ z) (sym e) p.3,
    ))
    (path_distinct links acyclic v vs path.1)

path_below : (links : List (ℕ × ℕ)) (n : ℕ) → ((u v : ℕ) → Points links u v → v < n) → (u : ℕ) (vs : List ℕ) → u < n
    → IsPath links u vs → (q : ℕ) → Contains (u ∷ vs) q → q < n
path_below links n below u [] l path q h =
    ⊎_elim (λ e. omega (arith, e)) (λ r. absurd (Contains-none q r)) (Contains-cases q u [] h)
path_below links n below u (v ∷ vs) l path q h = ⊎_elim (λ e. omega (arith, e))
    (path_below links n below v vs (below u v path.0) path.1 q) (Contains-cases q u (v ∷ vs) h)

pub path_short : (links : List (ℕ × ℕ)) (n : ℕ) → IsAcyclic links → ((u v : ℕ) → Points links u v → v < n)
    → (u : ℕ) (vs : List ℕ) → u < n → IsPath links u vs → length vs < n
path_short links n acyclic below u vs l path =
    distinct_length n (u ∷ vs) (path_distinct links acyclic u vs path) (path_below links n below u vs l path)
