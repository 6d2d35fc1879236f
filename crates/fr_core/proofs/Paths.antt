-- A linked node has the settled count 0 exactly if a path along the links leads from it to the destination.
use Rattle.std.proofs.Common.{List, [], arith, inl, inr, refl, subst, sym, ℕ, ◌++◌, ◌<◌, ◌∷◌, ◌≡◌}
use Rattle.fr_core.proofs.Settling.{walk_against}
use Rattle.fr_core.specs.Settled.{IsSettledCount}
use Rattle.fr_core.specs.Walks.{HasUndirectedWalk, IsUndirectedWalk}
use Rattle.fr_graph.specs.Links.{HasPath, IsAlone, IsPath, Points, end_of}

path_more : (links : List (ℕ × ℕ)) (x : ℕ) (ws : List ℕ) (u v : ℕ) → IsPath links x ws → end_of x ws ≡ v
    → Points links v u
    → IsPath links x (ws ++ u ∷ []) × (end_of x (ws ++ u ∷ []) ≡ u)
path_more links x [] u v path e h = ((subst (λ (z : ℕ). Points links z u) (sym e) h, tt), refl)
path_more links x (w ∷ ws) u v path e h = let rest = path_more links w ws u v path.1 e h in ((path.0, rest.0), rest.1)

path_from_walk : (links : List (ℕ × ℕ)) (u : ℕ) (vs : List ℕ) (k x : ℕ) → IsUndirectedWalk links u vs k x → k ≡ 0
    → HasPath links x u
path_from_walk links u [] k x w e = ([], (tt, w.0))
path_from_walk links u (v ∷ vs) k x (inl w) e = absurd (omega (arith, w.1.1))
path_from_walk links u (v ∷ vs) k x (inr w) e =
    let p = path_from_walk links v vs k x w.1 e in (p.0 ++ u ∷ [], path_more links x p.0 u v p.1.0 p.1.1 w.0)

pub walk_from_path : (links : List (ℕ × ℕ)) (d x : ℕ) (vs : List ℕ) → IsPath links x vs → end_of x vs ≡ d
    → HasUndirectedWalk links d x 0
walk_from_path links d x [] path e = ([], (e, refl))
walk_from_path links d x (v ∷ vs) path e =
    let w = walk_from_path links d v vs path.1 e in (w.0 ++ x ∷ [], walk_against links d w.0 0 v x w.1 path.0)

pub zero_gives_path : (n d : ℕ) (links : List (ℕ × ℕ)) (x : ℕ) (k : ℕ) → x < n → ¬ IsAlone links x
    → IsSettledCount n d links x k → k ≡ 0 → HasPath links x d
zero_gives_path n d links x k l linked (inl h) e = absurd (linked h.0)
zero_gives_path n d links x k l linked (inr (inl h)) e = path_from_walk links d h.1.reached.0 k x h.1.reached.1 e
zero_gives_path n d links x k l linked (inr (inr h)) e = absurd (omega (arith, h.2))

pub path_gives_zero : (n d : ℕ) (links : List (ℕ × ℕ)) (x : ℕ) (k : ℕ) → IsSettledCount n d links x k
    → HasPath links x d → k ≡ 0
path_gives_zero n d links x k (inl h) p = h.1
path_gives_zero n d links x k (inr (inl h)) (vs, p) = omega (arith, h.1.least 0 (walk_from_path links d x vs p.0 p.1))
path_gives_zero n d links x k (inr (inr h)) (vs, p) = absurd (h.1 (0, walk_from_path links d x vs p.0 p.1))
