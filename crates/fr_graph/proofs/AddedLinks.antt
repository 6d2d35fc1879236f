-- The links of a network with one added link.
use Rattle.std.proofs.Common.{List, [], ap, arith, count_by, get_or, inl, inr, length, refl, subst, sym, true, ℕ}
use Rattle.std.proofs.Common.{⊎_elim, ◌++◌, ◌+◌, ◌<◌, ◌∙◌, ◌∷◌}
use Rattle.std.proofs.Common.{◌≡◌, ◌≢◌, ◌≤◌, ◌⊎◌}
use Rattle.std.proofs.lemmas.Bool.{cases_Bool, cases_lt}
use Rattle.std.proofs.lemmas.List.{get_or_push, length_push}
use Rattle.std.proofs.lemmas.List.Elements.{All-push, Contains-push_cases}
use Rattle.std.proofs.lemmas.List.Sums.{sum_by_push}
use Rattle.fr_graph.proofs.Counting.{one_passes, weigh}
use Rattle.fr_graph.proofs.Cycles.{points_at}
use Rattle.fr_graph.proofs.Linking.{is_between_itself, joined_from, not_twice, some_joined}
use Rattle.fr_graph.proofs.Ordering.{in_order_order, insert_order, is_pair, same_order, times-in_order, times-insert}
use Rattle.fr_graph.specs.Faults.{IsFaultless, IsInRange, IsOutOfRange}
use Rattle.fr_graph.specs.Graph.{CanPut}
use Rattle.fr_graph.specs.Limits.{IsWithinLimits, most_links}
use Rattle.fr_graph.specs.Links.{AreBelow, AreSingle, HasNoSelfLink, HasPath, IsAcyclic, IsClosedWalk, IsPath, Joins}
use Rattle.fr_graph.specs.Links.{end_of, is_between}
use Rattle.fr_graph.specs.Order.{AreInOrder, in_order, with_in_order}

abbrev pub added : List (ℕ × ℕ) → ℕ → ℕ → List (ℕ × ℕ)
added links u v = links ++ (u, v) ∷ []

-- a link inserted at its place among links in order
pub added_in_order : (links : List (ℕ × ℕ)) (u v : ℕ) → AreInOrder links
    → with_in_order (u, v) links ≡ in_order (added links u v)
added_in_order links u v order =
    same_order (with_in_order (u, v) links) (in_order (added links u v)) (insert_order (u, v) links order)
    (in_order_order (added links u v))
    (λ x.
    let weight : ℕ × ℕ → ℕ = λ l. weigh (is_pair x.0 x.1 l) in
    omega (arith, times-insert (u, v) links x, times-in_order (added links u v) x, sum_by_push weight links (u, v)))

-- the faults of an added link
pub within_limits : (n : ℕ) (links : List (ℕ × ℕ)) (u v : ℕ) → IsWithinLimits n links → length links < most_links
    → IsWithinLimits n (added links u v)
within_limits n links u v limits few =
    record { nodes_few = limits.nodes_few; links_few = omega (arith, length_push links (u, v)) }

pub in_range : (n : ℕ) (links : List (ℕ × ℕ)) (u v : ℕ) → AreBelow n links → u < n → v < n
    → IsInRange n (added links u v)
in_range n links u v below a b = record {
  some = omega arith;
  below = All-push (λ (l : ℕ × ℕ). (l.0 < n) × (l.1 < n)) links (u, v) below (a, b);
}

pub no_self : (links : List (ℕ × ℕ)) (u v : ℕ) → HasNoSelfLink links → u ≢ v → HasNoSelfLink (added links u v)
no_self links u v clear apart = All-push (λ (l : ℕ × ℕ). ¬ (l.0 ≡ l.1)) links (u, v) clear apart

pub count_added : (links : List (ℕ × ℕ)) (u v a b : ℕ)
    → count_by (is_between a b) (added links u v) ≡ count_by (is_between a b) links + weigh (is_between a b (u, v))
count_added links u v a b = let weight : ℕ × ℕ → ℕ = λ l. weigh (is_between a b l) in sum_by_push weight links (u, v)

between_joins : (links : List (ℕ × ℕ)) (a b : ℕ) → 1 ≤ count_by (is_between a b) links → Joins links a b
between_joins links a b some =
    let k = some_joined links a b some in
    elim (joined_from a b (get_or links k.0 (a, b)) k.2) [
      | inl t ↦ inl (points_at links k.0 a b (a, b) k.1 t.0 t.1)
      | inr t ↦ inr (points_at links k.0 b a (a, b) k.1 t.0 t.1)
    ]

joins_ends : (links : List (ℕ × ℕ)) (u v a b : ℕ) → is_between a b (u, v) ≡ true → Joins links a b → Joins links u v
joins_ends links u v a b e h =
    elim (joined_from a b (u, v) e) [
      | inl t ↦ subst (λ (y : ℕ). Joins links y v) (sym t.0) (subst (λ (y : ℕ). Joins links a y) (sym t.1) h)
      | inr t ↦ subst (λ (y : ℕ). Joins links y v) (sym t.0)
          (subst (λ (y : ℕ). Joins links b y) (sym t.1) (⊎_elim (λ p. inr p) (λ p. inl p) h))
    ]

added_once : (links : List (ℕ × ℕ)) (u v a b : ℕ) → AreSingle links → ¬ Joins links u v
    → count_by (is_between a b) (added links u v) ≤ 1
added_once links u v a b single free =
    elim (cases_Bool (is_between a b (u, v))) [
      | inl e ↦
          let one : weigh (is_between a b (u, v)) ≡ 1 = rw e refl in
          elim (cases_lt 0 (count_by (is_between a b) links)) [
            | inl some ↦ absurd (free (joins_ends links u v a b e (between_joins links a b (omega (arith, some)))))
            | inr none ↦ omega (arith, count_added links u v a b, one, none)
          ]
      | inr e ↦
          let none : weigh (is_between a b (u, v)) ≡ 0 = rw e refl in
          omega (arith, count_added links u v a b, none, not_twice links a b single)
    ]

pub single_added : (links : List (ℕ × ℕ)) (u v : ℕ) → AreSingle links → ¬ Joins links u v → AreSingle (added links u v)
single_added links u v single free k d l =
    let link = get_or (added links u v) k d in
    omega (
      arith,
      added_once links u v link.0 link.1 single free,
      one_passes (is_between link.0 link.1) (added links u v) k d l (is_between_itself link),
    )

-- a walk along the links with the added one is a walk along the others, or it leads to the tail of the added link and
-- continues from its head
pub path_joins : (links : List (ℕ × ℕ)) (a : ℕ) (vs : List ℕ) (b c : ℕ) → IsPath links a vs → end_of a vs ≡ b
    → HasPath links b c → HasPath links a c
path_joins links a [] b c path e rest = subst (λ (y : ℕ). HasPath links y c) (sym e) rest
path_joins links a (w ∷ ws) b c path e rest =
    let r = path_joins links w ws b c path.1 e rest in (w ∷ r.0, ((path.0, r.1.0), r.1.1))

path_splits : (links : List (ℕ × ℕ)) (u v a : ℕ) (vs : List ℕ) → IsPath (added links u v) a vs → IsPath links a vs
    ⊎ (HasPath links a u × HasPath links v (end_of a vs))
path_splits links u v a [] path = inl tt
path_splits links u v a (w ∷ ws) path =
    let rest = path_splits links u v w ws path.1 in
    elim (Contains-push_cases links (u, v) (a, w) path.0) [
      | inl step ↦ elim rest [
        | inl old ↦ inl (step, old)
        | inr new ↦ inr ((w ∷ new.0.0, ((step, new.0.1.0), new.0.1.1)), new.1)
      ]
      | inr e ↦
          let at_tail : u ≡ a = ap (λ (l : ℕ × ℕ). l.0) e in
          let at_head : v ≡ w = ap (λ (l : ℕ × ℕ). l.1) e in
          let here : HasPath links a u = ([], (tt, sym at_tail)) in
          elim rest [
            | inl old ↦ inr (here, subst (λ (y : ℕ). HasPath links y (end_of w ws)) (sym at_head) (ws, (old, refl)))
            | inr new ↦ inr (here, new.1)
          ]
    ]

-- if the links with the added one contain a cycle, a path leads from the head of the added link to its tail
pub closed_back : (links : List (ℕ × ℕ)) (u v a : ℕ) (vs : List ℕ) → IsAcyclic links
    → IsClosedWalk (added links u v) a vs → HasPath links v u
closed_back links u v a [] acyclic h = absurd h
closed_back links u v a (w ∷ ws) acyclic h =
    elim (path_splits links u v a (w ∷ ws) h.0) [
      | inl old ↦ absurd (acyclic a (w ∷ ws) (old, h.1))
      | inr new ↦ path_joins links v new.1.0 a u new.1.1.0 (new.1.1.1 ∙ h.1) new.0
    ]

-- the links have no fault
pub faultless_added : (n : ℕ) (links : List (ℕ × ℕ)) (u v : ℕ) → IsFaultless n links
    → CanPut (record { nodes = n; links = links }) u v → IsFaultless n (added links u v)
faultless_added n links u v clear can = record {
  limits = within_limits n links u v clear.limits can.few;
  some = clear.some;
  is_net = record {
    in_range = (in_range n links u v clear.is_net.in_range can.unjoined.tail can.unjoined.head).below;
    no_self = no_self links u v clear.is_net.no_self can.unjoined.apart;
    single = single_added links u v clear.is_net.single can.unjoined.free;
    acyclic = can.acyclic;
  };
}

-- a node of the added link that is out of range is out of range among all links
pub out_of_range_added : (n : ℕ) (links : List (ℕ × ℕ)) (u v x : ℕ) → IsOutOfRange n ((u, v) ∷ []) x
    → IsOutOfRange n (added links u v) x
out_of_range_added n links u v x (inl none) = inl none
out_of_range_added n links u v x (inr out) =
    let p : ℕ × ℕ = (u, v) in
    let any = out.2 in
    let first : any.0 ≡ 0 = omega (arith, any.2) in
    let is : any.1 ≡ p = sym (ap (λ (k : ℕ). get_or (p ∷ []) k any.1) (sym first) ∙ any.3) in
    inr (
      out.0,
      out.1,
      (length links, p, omega (arith, length_push links p), get_or_push links p p (length links) refl, rw is at any.4),
    )
