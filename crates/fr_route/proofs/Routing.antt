-- Routes: they are simple paths to the destination, no node has two, and at settled counts exactly the nodes that are
-- connected to the destination have one.
use Rattle.std.proofs.Common.{List, [], ap, ap₂, arith, eqb, inl, inr, length, refl, slice_index, subst, suc, sym, zero}
use Rattle.std.proofs.Common.{ℕ, ⊎_elim, ◌<◌, ◌∷◌, ◌≡◌, ◌⊎◌}
use Rattle.std.proofs.lemmas.Bool.{cases_eq}
use Rattle.std.specs.List.{IsDistinct}
use Rattle.fr_graph.proofs.Acyclic.{links_at_acyclic}
use Rattle.fr_graph.proofs.Giving.{ComesFrom, Points-links_at_from}
use Rattle.fr_graph.proofs.Linking.{joined_below}
use Rattle.fr_graph.specs.Counts.{links_at}
use Rattle.fr_graph.specs.Links.{HaveSameLinks, IsAcyclic, IsNet, IsPath, Joins, Points, end_of}
use Rattle.fr_graph.proofs.Neighbours.{cases_points}
use Rattle.fr_core.proofs.Following.{path_distinct, path_short}
use Rattle.fr_core.proofs.Joining.{walk_linked}
use Rattle.fr_core.proofs.Paths.{walk_from_path}
use Rattle.fr_core.proofs.Searching.{cases_below}
use Rattle.fr_core.proofs.Unique.{IsLinkedCount, joined_against, joined_along, of_linked, settled_out}
use Rattle.fr_core.specs.Settled.{AreSettled}
use Rattle.fr_core.specs.Walks.{IsConnected, IsLeastAway}
use Rattle.fr_route.specs.Routes.{IsNextHop, IsRoute}

-- a node from which a link points away has a next hop
next_hop : (links : List (ℕ × ℕ)) (n : ℕ) → ((u v : ℕ) → Points links u v → v < n) → (x y : ℕ) → Points links x y
    → (z : ℕ) × IsNextHop links x z
next_hop links n below x y h = ⊎_elim
    (λ f. (f.0, record { link = f.2; least = f.3 }))
    (λ none. absurd (none y (below x y h) h))
    (cases_below (Points links x) (cases_points links x) n)

pub route_path : (links : List (ℕ × ℕ)) (d x : ℕ) (ys : List ℕ) → IsRoute links d x ys → IsPath links x ys
route_path links d x [] r = tt
route_path links d x (y ∷ ys) r = (r.1.link, route_path links d y ys r.2)

pub route_end : (links : List (ℕ × ℕ)) (d x : ℕ) (ys : List ℕ) → IsRoute links d x ys → end_of x ys ≡ d
route_end links d x [] r = r
route_end links d x (y ∷ ys) r = route_end links d y ys r.2

pub route_simple : (links : List (ℕ × ℕ)) (d x : ℕ) (ys : List ℕ) → IsAcyclic links → IsRoute links d x ys
    → IsPath links x ys × (end_of x ys ≡ d) × IsDistinct eqb (x ∷ ys)
route_simple links d x ys acyclic r =
    let path = route_path links d x ys r in (path, route_end links d x ys r, path_distinct links acyclic x ys path)

pub route_joined : (links : List (ℕ × ℕ)) (d x : ℕ) (ys : List ℕ) → IsRoute links d x ys → IsConnected links d x
route_joined links d x ys r = (0, walk_from_path links d x ys (route_path links d x ys r) (route_end links d x ys r))

pub hop_unique : (links : List (ℕ × ℕ)) (x y z : ℕ) → IsNextHop links x y → IsNextHop links x z → y ≡ z
hop_unique links x y z h g = omega (arith, h.least z g.link, g.least y h.link)

pub route_unique : (links : List (ℕ × ℕ)) (d x : ℕ) (ys zs : List ℕ) → IsRoute links d x ys → IsRoute links d x zs
    → ys ≡ zs
route_unique links d x [] [] r s = refl
route_unique links d x [] (z ∷ zs) r s = absurd (s.0 r)
route_unique links d x (y ∷ ys) [] r s = absurd (r.0 s)
route_unique links d x (y ∷ ys) (z ∷ zs) r s =
    let e = hop_unique links x y z r.1 s.1 in
    ap₂ (λ (h : ℕ) (t : List ℕ). h
    ∷ t) e (route_unique links d y ys zs r.2 (subst (λ (w : ℕ). IsRoute links d w zs) (sym e) s.2))

pub same_hop : (a b : List (ℕ × ℕ)) → HaveSameLinks a b → (x y : ℕ) → IsNextHop a x y → IsNextHop b x y
same_hop a b same x y h = record { link = (same x y).0 h.link; least = λ w g. h.least w ((same x w).1 g) }

pub same_route : (a b : List (ℕ × ℕ)) → HaveSameLinks a b → (d x : ℕ) (ys : List ℕ) → IsRoute a d x ys
    → IsRoute b d x ys
same_route a b same d x [] r = r
same_route a b same d x (y ∷ ys) r = (r.0, same_hop a b same x y r.1, same_route a b same d y ys r.2)

module _ (n d : ℕ) (first : List (ℕ × ℕ)) (net : IsNet n first) (in_range : d
    < n) (c : List ℕ) (settled : AreSettled n d first c) where
  now_below : (x y : ℕ) → Points (links_at first c) x y → y < n
  now_below x y h = go (Points-links_at_from first c x y h)
    where
      go : ComesFrom first c x y → y < n
      go (inl h) = (joined_below n first y x net (inr h.0)).0
      go (inr h) = (joined_below n first y x net (inl h.0)).0

  pub joined_next : (x y : ℕ) → Points (links_at first c) x y → IsConnected first d x → IsConnected first d y
  joined_next x y h joined = go (Points-links_at_from first c x y h)
    where
      go : ComesFrom first c x y → IsConnected first d y
      go (inl h) = joined_along n d first net in_range c settled x y h.0 joined
      go (inr h) = joined_against n d first net in_range c settled x y h.0 joined

  -- a link points away from each node that is connected to the destination, except from the destination
  pub out_of_joined : (x : ℕ) → IsConnected first d x → ¬ (x ≡ d) → (y : ℕ) × Points (links_at first c) x y
  out_of_joined x joined apart = go (walk_linked first d joined.1.0 joined.0 x joined.1.1)
    where
      least_of : IsLinkedCount n d first x (slice_index c x) → IsLeastAway first d x (slice_index c x)
      least_of (inl h) = h
      least_of (inr h) = absurd (h.0 joined)

      go : (x ≡ d) ⊎ ((w : ℕ) × Joins first x w) → (y : ℕ) × Points (links_at first c) x y
      go (inl e) = absurd (apart e)
      go (inr (w, h)) =
          settled_out n d first net in_range c settled x (least_of (of_linked n d first net in_range c settled x w h))
          (λ e. apart (sym e))

  -- after k hops the destination is reached, or there is a path of k links
  route_by : (k x : ℕ) → IsConnected first d x → ((ys : List ℕ) × IsRoute (links_at first c) d x ys)
      ⊎ ((vs : List ℕ) × (length vs ≡ k) × IsPath (links_at first c) x vs)
  route_by zero x joined = inr ([], refl, tt)
  route_by (suc k) x joined = ⊎_elim
      (λ e. inl ([], e))
      (λ apart.
      let o = out_of_joined x joined apart in
      let hop = next_hop (links_at first c) n now_below x o.0 o.1 in
      ⊎_elim (λ r. inl (hop.0 ∷ r.0, (apart, hop.1, r.1))) (λ p. inr (hop.0 ∷ p.0, ap suc p.1, (hop.1.link, p.2)))
      (route_by k hop.0 (joined_next x hop.0 hop.1.link joined)))
      (cases_eq x d)

  pub joined_in_range : (x : ℕ) → IsConnected first d x → x < n
  joined_in_range x joined =
      ⊎_elim (λ e. omega (arith, e)) (λ h. (joined_below n first x h.0 net h.1).0)
      (walk_linked first d joined.1.0 joined.0 x joined.1.1)

  pub route : (x : ℕ) → IsConnected first d x → (ys : List ℕ) × IsRoute (links_at first c) d x ys
  route x joined = ⊎_elim (λ r. r)
      (λ p. absurd (omega (
        arith,
        p.1,
        path_short (links_at first c) n (links_at_acyclic first c net.acyclic) now_below x p.0
            (joined_in_range x joined) p.2,
      )))
      (route_by n x joined)
