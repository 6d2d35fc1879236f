-- How far a walk along the route has come.
use Rattle.std.proofs.Common.{List, [], append-nil, append_assoc, ap, arith, codes, decimal, length, refl, subst, sym}
use Rattle.std.proofs.Common.{ℕ, ◌++◌, ◌<◌, ◌∙◌, ◌∷◌, ◌≡◌, ◌≤◌}
use Rattle.std.proofs.lemmas.List.Elements.{All-contains}
use Rattle.std.proofs.lemmas.List.{length-append}
use Rattle.fr_graph.specs.Links.{IsNet}
use Rattle.fr_core.proofs.Following.{path_short}
use Rattle.fr_route.specs.States.{State}
use Rattle.fr_route.specs.Texts.{spaced, walk_text}
use Rattle.fr_route.specs.Routes.{IsHop, IsRoute}
use Rattle.fr_tables.specs.declared.hop.Hop.{Hop}
use Rattle.fr_tables.specs.declared.hop.Hop.TheVariants.{Here, To, CutOff}
use Rattle.fr_route.proofs.Routing.{route_joined, route_path, route_unique}

-- these nodes are the front of the route from x, and its rest begins at the node that was reached
pub record HasWalked (s : State) (x at : ℕ) (nodes : List ℕ) : Type 0 where
  pub done : List ℕ
  pub left : List ℕ
  pub front : nodes ≡ x ∷ done
  pub whole : IsRoute s.links s.dest x (done ++ left)
  pub rest : IsRoute s.links s.dest at left

pub walk_begins : (s : State) (x : ℕ) (hop : Hop) → IsHop s x hop → ¬ (hop ≡ CutOff) → HasWalked s x x (x ∷ [])
walk_begins s x Here h ne = record { done = []; left = []; front = refl; whole = h; rest = h }
walk_begins s x (To y) h ne = record { done = []; left = y ∷ h.0; front = refl; whole = h.1; rest = h.1 }
walk_begins s x CutOff h ne = absurd (ne refl)

pub walks_on : (s : State) (x at next : ℕ) (nodes : List ℕ) → HasWalked s x at nodes → IsHop s at (To next)
    → HasWalked s x next (nodes ++ next ∷ [])
walks_on s x at next nodes w h =
    let left_is : w.left ≡ next ∷ h.0 = route_unique s.links s.dest at w.left (next ∷ h.0) w.rest h.1 in
    let split : w.done ++ w.left ≡ (w.done ++ next ∷ []) ++ h.0 =
    ap (λ (l : List ℕ). w.done ++ l) left_is ∙ sym (append_assoc w.done (next ∷ []) h.0) in
    record {
      done = w.done ++ next ∷ [];
      left = h.0;
      front = ap (λ (l : List ℕ). l ++ next ∷ []) w.front;
      whole = subst (IsRoute s.links s.dest x) split w.whole;
      rest = h.1.2;
    }

-- if there is no hop to another node, the destination is reached
pub walk_ends : (s : State) (x at : ℕ) (nodes : List ℕ) → HasWalked s x at nodes → (hop : Hop) → IsHop s at hop
    → ((next : ℕ) → ¬ (hop ≡ To next)) → (rest : List ℕ) × IsRoute s.links s.dest x rest × (nodes ≡ x ∷ rest)
walk_ends s x at nodes w Here h none =
    let left_is : w.left ≡ [] = route_unique s.links s.dest at w.left [] w.rest h in (
      w.done,
      subst (IsRoute s.links s.dest x) (ap (λ (l : List ℕ). w.done ++ l) left_is ∙ append-nil w.done) w.whole,
      w.front,
    )
walk_ends s x at nodes w (To next) h none = absurd (none next refl)
walk_ends s x at nodes w CutOff h none = absurd (h.1 (route_joined s.links s.dest at w.left w.rest))

-- a node with a route is in the network
pub route_in_range : (n : ℕ) (links : List (ℕ × ℕ)) (d x : ℕ) (ys : List ℕ) → IsNet n links → d < n
    → IsRoute links d x ys → x < n
route_in_range n links d x [] net below r = subst (λ (y : ℕ). y < n) (sym r) below
route_in_range n links d x (y ∷ ys) net below r =
    (All-contains (λ (l : ℕ × ℕ). (l.0 < n) × (l.1 < n)) links (x, y) net.in_range r.1.link).0

pub walk_in_range : (s : State) (x at : ℕ) (nodes : List ℕ) → IsNet s.nodes s.links → s.dest < s.nodes
    → HasWalked s x at nodes → at < s.nodes
walk_in_range s x at nodes net below w = route_in_range s.nodes s.links s.dest at w.left net below w.rest

-- a walk has no more nodes than the network
pub walk_short : (s : State) (x at : ℕ) (nodes : List ℕ) → IsNet s.nodes s.links → s.dest < s.nodes
    → HasWalked s x at nodes → length nodes ≤ s.nodes
walk_short s x at nodes net below w =
    let short : length (w.done ++ w.left) < s.nodes = path_short s.links s.nodes net.acyclic
    (λ u v h. (All-contains (λ (l : ℕ × ℕ). (l.0 < s.nodes) × (l.1 < s.nodes)) s.links (u, v) net.in_range h).1)
    x (w.done ++ w.left) (route_in_range s.nodes s.links s.dest x (w.done ++ w.left) net below w.whole)
    (route_path s.links s.dest x (w.done ++ w.left) w.whole) in
    omega (arith, short, length-append w.done w.left, ap length w.front)

-- the same, with the number of these nodes and a line that shows them
pub record HasWritten (s : State) (x at count : ℕ) (line : List ℕ) : Type 0 where
  pub nodes : List ℕ
  pub walked : HasWalked s x at nodes
  pub many : length nodes ≡ count
  pub text : line ≡ walk_text nodes

spaced_more : (ns : List ℕ) (n : ℕ) → spaced (ns ++ n ∷ []) ≡ spaced ns ++ (codes " " ++ decimal n)
spaced_more [] n = ap (λ (l : List ℕ). codes " " ++ l) (append-nil (decimal n))
spaced_more (m ∷ ns) n =
    ap (λ (l : List ℕ). codes " " ++ l)
    (ap (λ (l : List ℕ). decimal m ++ l) (spaced_more ns n)
    ∙ sym (append_assoc (decimal m) (spaced ns) (codes " " ++ decimal n)))

-- one more node
pub walk_more : (ns : List ℕ) (n : ℕ) → walk_text (ns ++ n ∷ []) ≡ walk_text ns ++ (codes " " ++ decimal n)
walk_more ns n =
    ap (λ (l : List ℕ). codes "walk" ++ l) (spaced_more ns n)
    ∙ sym (append_assoc (codes "walk") (spaced ns) (codes " " ++ decimal n))
