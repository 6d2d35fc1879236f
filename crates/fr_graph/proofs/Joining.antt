-- Two nodes are joined by a link, in a direction that closes no cycle.
use Rattle.std.proofs.Common.{All, Bool, List, [], ap, arith, cond, count_by, false, get_or, inl, inr, length, refl}
use Rattle.std.proofs.Common.{subst, sym, true, ℕ, ⊎_elim}
use Rattle.std.proofs.Common.{◌++◌, ◌<◌, ◌∙◌, ◌∷◌, ◌≡◌, ◌≢◌}
use Rattle.std.specs.Prelude.{not}
use Rattle.std.specs.declared.alloc.Global.{Global}
use Rattle.std.specs.declared.vec.Vec.{Vec}
use Rattle.std.proofs.lemmas.Bool.{cases_Bool}
use Rattle.std.proofs.lemmas.List.{get_or_append_left, length_push}
use Rattle.std.proofs.lemmas.List.Elements.{All-contains, All-push, Contains-append_left, Contains-push}
use Rattle.std.proofs.lemmas.List.Sums.{sum_by_push}
use Rattle.fr_graph.proofs.AddedLinks.{added, closed_back, in_range, no_self, path_joins, single_added, within_limits}
use Rattle.fr_graph.proofs.Counting.{one_passes, weigh}
use Rattle.fr_graph.proofs.Lists.{filter_kept}
use Rattle.fr_graph.proofs.Cycles.{points_at}
use Rattle.fr_graph.proofs.Linking.{is_between_itself, is_between_turned, joined_from, not_twice, path_carries}
use Rattle.fr_graph.proofs.Members.{Contains-tail}
use Rattle.fr_graph.proofs.Refusing.{fault_place, first_fault_place, no_first_fault, no_self_link, not_too_large}
use Rattle.fr_graph.proofs.Refusing.{range_stands}
use Rattle.fr_graph.specs.Edits.{IsJoined, IsJoinFault, without}
use Rattle.fr_graph.specs.Faults.{IsFaultless, IsFirstFault, IsInRange}
use Rattle.fr_graph.specs.Halves.{AreUnjoined}
use Rattle.fr_graph.specs.Limits.{IsWithinLimits, most_links}
use Rattle.fr_graph.specs.Links.{AreBelow, AreSingle, HasNoSelfLink, HasPath, IsAcyclic, IsClosedWalk, IsCycle, IsPath}
use Rattle.fr_graph.specs.Links.{Joins, end_of, is_between}
use Rattle.fr_graph.specs.Network.{Network}
use Rattle.fr_graph.specs.Order.{is_not_after, with_in_order}
use Rattle.fr_graph.specs.declared.fault.NetFault.{NetFault}
use Rattle.fr_graph.specs.declared.fault.NetFault.TheVariants.{Cycle, Memory, NoLink, Range, SelfLink, TooMany, Twice}

-- a link closes a cycle exactly if a path leads from its head to its tail
pub path_walks : (links : List (ℕ × ℕ)) (u v : ℕ) (vs : List ℕ) → IsPath links v vs → end_of v vs ≡ u
    → IsClosedWalk (added links u v) u (v ∷ vs)
path_walks links u v vs path ends = (
  (
    Contains-push links (u, v),
    path_carries links (added links u v) (λ x y p. Contains-append_left links ((u, v) ∷ []) (x, y) p) v vs path,
  ),
  ends,
)

pub path_closes : (links : List (ℕ × ℕ)) (u v : ℕ) → HasPath links v u → ¬ IsAcyclic (added links u v)
path_closes links u v path acyclic = acyclic u (v ∷ path.0) (path_walks links u v path.0 path.1.0 path.1.1)

pub no_path_free : (links : List (ℕ × ℕ)) (u v : ℕ) → IsAcyclic links → ¬ HasPath links v u
    → IsAcyclic (added links u v)
no_path_free links u v acyclic none a vs walk = none (closed_back links u v a vs acyclic walk)

-- two nodes that no link joins, in the other order
pub unjoined_turned : (n : ℕ) (links : List (ℕ × ℕ)) (u v : ℕ) → AreUnjoined n links u v → AreUnjoined n links v u
unjoined_turned n links u v free = record {
  tail = free.head;
  head = free.tail;
  apart = λ e. free.apart (sym e);
  free = λ h. free.free (⊎_elim (λ p. inr p) (λ p. inl p) h);
}

-- a path to a node and one back are a cycle
no_return : (links : List (ℕ × ℕ)) (u v : ℕ) → IsAcyclic links → u ≢ v → HasPath links u v → ¬ HasPath links v u
no_return links u v acyclic apart ([], there) back = apart there.1
no_return links u v acyclic apart (w ∷ ws, there) back =
    let round = path_joins links w ws v u there.0.1 there.1 back in
    acyclic u (w ∷ round.0) ((there.0.0, round.1.0), round.1.1)

pub one_way_free : (links : List (ℕ × ℕ)) (u v : ℕ) → IsAcyclic links → u ≢ v → ¬ IsAcyclic (added links u v)
    → IsAcyclic (added links v u)
one_way_free links u v acyclic apart closes a vs h =
    let there : HasPath links u v = closed_back links v u a vs acyclic h in
    closes (λ b ws g. no_return links u v acyclic apart there (closed_back links u v b ws acyclic g))

-- the tests before the test for cycles do not depend on the direction of the link
all_turned : (P : ℕ × ℕ → Type 0) (links : List (ℕ × ℕ)) (l m : ℕ × ℕ) → (P l → P m) → All P (links ++ l ∷ [])
    → All P (links ++ m ∷ [])
all_turned P links l m turn all =
    All-push P links m
    (λ k d lt. subst P (get_or_append_left links (l ∷ []) d k lt) (all k d (omega (arith, length_push links l, lt))))
    (turn (All-contains P (links ++ l ∷ []) l all (Contains-push links l)))

limits_turned : (n : ℕ) (links : List (ℕ × ℕ)) (u v : ℕ) → IsWithinLimits n (added links u v)
    → IsWithinLimits n (added links v u)
limits_turned n links u v limits = record {
  nodes_few = limits.nodes_few;
  links_few = omega (arith, limits.links_few, length_push links (u, v), length_push links (v, u));
}

below_turned : (n : ℕ) (links : List (ℕ × ℕ)) (u v : ℕ) → AreBelow n (added links u v) → AreBelow n (added links v u)
below_turned n links u v = all_turned (λ (l : ℕ × ℕ). (l.0 < n) × (l.1 < n)) links (u, v) (v, u) (λ t. (t.1, t.0))

no_self_turned : (links : List (ℕ × ℕ)) (u v : ℕ) → HasNoSelfLink (added links u v) → HasNoSelfLink (added links v u)
no_self_turned links u v = all_turned (λ (l : ℕ × ℕ). ¬ (l.0 ≡ l.1)) links (u, v) (v, u) (λ apart e. apart (sym e))

count_turned : (links : List (ℕ × ℕ)) (u v a b : ℕ)
    → count_by (is_between a b) (added links u v) ≡ count_by (is_between a b) (added links v u)
count_turned links u v a b =
    let weight : ℕ × ℕ → ℕ = λ l. weigh (is_between a b l) in
    let same : weight (u, v) ≡ weight (v, u) = ap weigh (is_between_turned a b u v) in
    omega (arith, sum_by_push weight links (u, v), sum_by_push weight links (v, u), same)

single_turned : (links : List (ℕ × ℕ)) (u v : ℕ) → AreSingle (added links u v) → AreSingle (added links v u)
single_turned links u v single k d lt =
    let link = get_or (added links v u) k d in
    omega (
      arith,
      count_turned links u v link.0 link.1,
      not_twice (added links u v) link.0 link.1 single,
      one_passes (is_between link.0 link.1) (added links v u) k d lt (is_between_itself link),
    )

-- in the other direction there is no fault
pub faultless_turned : (n : ℕ) (links : List (ℕ × ℕ)) (u v : ℕ) → IsAcyclic links → IsWithinLimits n (added links u v)
    → IsInRange n (added links u v) → HasNoSelfLink (added links u v) → AreSingle (added links u v)
    → ¬ IsAcyclic (added links u v) → IsFaultless n (added links v u)
faultless_turned n links u v acyclic limits range bar single closes =
    let apart : u ≢ v =
    All-contains (λ (l : ℕ × ℕ). ¬ (l.0 ≡ l.1)) (added links u v) (u, v) bar (Contains-push links (u, v)) in
    record {
      limits = limits_turned n links u v limits;
      some = range.some;
      is_net = record {
        in_range = below_turned n links u v range.below;
        no_self = no_self_turned links u v bar;
        single = single_turned links u v single;
        acyclic = one_way_free links u v acyclic apart closes;
      };
    }

-- the link can be refused only for a cycle
pub cycle_fault : (n : ℕ) (links : List (ℕ × ℕ)) (u v : ℕ) (walk : Vec ℕ Global) → IsFaultless n links
    → length links < most_links → AreUnjoined n links u v → IsCycle (added links u v) walk.items
    → IsFirstFault n (added links u v) (Cycle walk)
cycle_fault n links u v walk clear few free cycle = (
  within_limits n links u v clear.limits few,
  in_range n links u v clear.is_net.in_range free.tail free.head,
  no_self links u v clear.is_net.no_self free.apart,
  single_added links u v clear.is_net.single free.free,
  cycle,
)

-- a join is refused for the first fault of the links with the link from u to v
pub as_first : (n : ℕ) (links : List (ℕ × ℕ)) (u v : ℕ) (f : NetFault) → IsJoinFault n links u v f
    → IsFirstFault n (added links u v) f
as_first n links u v TooMany h = h
as_first n links u v (Range x) h = h
as_first n links u v (SelfLink x) h = h
as_first n links u v (Twice x y) h = h
as_first n links u v (Cycle walk) h = absurd h
as_first n links u v NoLink h = h
as_first n links u v Memory h = h

pub join_fault_place : (n : ℕ) (links : List (ℕ × ℕ)) (u v : ℕ) (f g : NetFault) → IsJoinFault n links u v f
    → IsJoinFault n links u v g → fault_place f ≡ fault_place g
join_fault_place n links u v f g hf hg =
    first_fault_place n (added links u v) f g (as_first n links u v f hf) (as_first n links u v g hg)

-- the two directions of a join exclude each other
pub joined_one : (n : ℕ) (links : List (ℕ × ℕ)) (u v : ℕ) (a b : Network) → IsJoined n links u v a
    → IsJoined n links u v b → a ≡ b
joined_one n links u v a b (inl h) (inl g) = h.is ∙ sym g.is
joined_one n links u v a b (inl h) (inr g) = absurd (g.0 h.faultless.is_net.acyclic)
joined_one n links u v a b (inr h) (inl g) = absurd (h.0 g.faultless.is_net.acyclic)
joined_one n links u v a b (inr h) (inr g) = h.1.is ∙ sym g.1.is

-- links without a fault in one direction have no fault but a cycle in the other
no_fault_turned : (n : ℕ) (links : List (ℕ × ℕ)) (u v : ℕ) (f : NetFault) → IsFaultless n (added links v u)
    → ¬ IsJoinFault n links u v f
no_fault_turned n links u v TooMany clear h =
    not_too_large n (added links u v) (limits_turned n links v u clear.limits) h
no_fault_turned n links u v (Range x) clear h =
    range_stands n (added links u v) x clear.some (below_turned n links v u clear.is_net.in_range) h.1
no_fault_turned n links u v (SelfLink x) clear h =
    no_self_link (added links u v) x (no_self_turned links v u clear.is_net.no_self) h.2
no_fault_turned n links u v (Twice x y) clear h =
    omega (arith, h.3, not_twice (added links u v) x y (single_turned links v u clear.is_net.single))
no_fault_turned n links u v (Cycle walk) clear h = h
no_fault_turned n links u v NoLink clear h = h
no_fault_turned n links u v Memory clear h = h

pub join_not_refused : (n : ℕ) (links : List (ℕ × ℕ)) (u v : ℕ) (f : NetFault) (net : Network)
    → IsJoinFault n links u v f → ¬ IsJoined n links u v net
join_not_refused n links u v f net h (inl made) =
    no_first_fault n (added links u v) f made.faultless (as_first n links u v f h)
join_not_refused n links u v f net h (inr made) = no_fault_turned n links u v f made.1.faultless h

-- a link inserted among links in order, and removed again
not_among : (links : List (ℕ × ℕ)) (u v : ℕ) → ¬ Joins links u v → (k : ℕ) (d : ℕ × ℕ) → k < length links
    → is_between u v (get_or links k d) ≡ false
not_among links u v free k d lt =
    elim (cases_Bool (is_between u v (get_or links k d))) [
      | inl e ↦ elim (joined_from u v (get_or links k d) e) [
        | inl t ↦ absurd (free (inl (points_at links k u v d lt t.0 t.1)))
        | inr t ↦ absurd (free (inr (points_at links k v u d lt t.0 t.1)))
      ]
      | inr e ↦ e
    ]

pub without_none : (links : List (ℕ × ℕ)) (u v : ℕ) → ¬ Joins links u v → without u v links ≡ links
without_none links u v free =
    filter_kept (λ (l : ℕ × ℕ). not (is_between u v l)) links (λ k d lt. rw (not_among links u v free k d lt) refl)

cut_put_by : (b : Bool) (u v : ℕ) (q : ℕ × ℕ) (qs put : List (ℕ × ℕ)) → without u v (q ∷ qs) ≡ q ∷ qs
    → is_between u v q ≡ false → without u v put ≡ qs → without u v (cond b ((u, v) ∷ (q ∷ qs)) (q ∷ put)) ≡ q ∷ qs
cut_put_by true u v q qs put none apart rest = rw (is_between_itself (u, v)) none
cut_put_by false u v q qs put none apart rest = rw (apart, rest) refl

pub cut_put : (links : List (ℕ × ℕ)) (u v : ℕ) → ¬ Joins links u v → without u v (with_in_order (u, v) links) ≡ links
cut_put [] u v free = rw (is_between_itself (u, v)) refl
cut_put (q ∷ qs) u v free =
    let later : ¬ Joins qs u v =
    λ h. free (⊎_elim (λ p. inl (Contains-tail (u, v) q qs p)) (λ p. inr (Contains-tail (v, u) q qs p)) h) in
    cut_put_by (is_not_after (u, v) q) u v q qs (with_in_order (u, v) qs) (without_none (q ∷ qs) u v free)
    (not_among (q ∷ qs) u v free 0 q (omega arith)) (cut_put qs u v later)
