-- Which nodes a link joins, and when walks along some links are walks along others.
use Rattle.std.proofs.Common.{List, [], ap, arith, count_by, eq-eqb, eqb, eqb-true, get_or, inl, inr, length, refl}
use Rattle.std.proofs.Common.{subst, suc, sym, true, ℕ, ◌&&◌}
use Rattle.std.proofs.Common.{◌<◌, ◌∙◌, ◌∷◌, ◌≡◌, ◌≤◌, ◌⊎◌}
use Rattle.std.proofs.Math.Bool.{or-true}
use Rattle.std.proofs.lemmas.Bool.{cases_Bool, cases_eq, cases_lt}
use Rattle.std.proofs.lemmas.List.{get_or_default}
use Rattle.std.proofs.lemmas.List.Sums.{sum_by-cons}
use Rattle.fr_graph.proofs.Booleans.{flip, or_both, or_comm}
use Rattle.fr_graph.proofs.Counting.{cases_le_one, count_agrees, two_pass, weigh}
use Rattle.fr_graph.specs.Links.{AreSingle, HasNoSelfLink, IsClosedWalk, IsNet, IsPath, Joins, Points, is_between}

-- a link joins nodes that are in the network
pub link_below : (n : ℕ) (links : List (ℕ × ℕ)) (u v : ℕ) → IsNet n links → Points links u v → (u < n) × (v < n)
link_below n links u v net p =
    let b = net.in_range p.0 (u, v) p.1 in
    (omega (arith, b.0, ap (λ (l : ℕ × ℕ). l.0) p.2), omega (arith, b.1, ap (λ (l : ℕ × ℕ). l.1) p.2))

pub joined_below : (n : ℕ) (links : List (ℕ × ℕ)) (u v : ℕ) → IsNet n links → Joins links u v → (u < n) × (v < n)
joined_below n links u v net (inl p) = link_below n links u v net p
joined_below n links u v net (inr p) = let t = link_below n links v u net p in (t.1, t.0)

pub is_between_itself : (l : ℕ × ℕ) → is_between l.0 l.1 l ≡ true
is_between_itself l = rw (eq-eqb l.0 l.0 refl, eq-eqb l.1 l.1 refl) refl

pub is_between_back : (u v : ℕ) → is_between u v (v, u) ≡ true
is_between_back u v = rw (eq-eqb v v refl, eq-eqb u u refl) (or-true _)

pub is_between_turned : (a b u v : ℕ) → is_between a b (u, v) ≡ is_between a b (v, u)
is_between_turned a b u v = flip (eqb v a) (eqb u b) (eqb v b) (eqb u a)

pub joined_from : (u v : ℕ) (l : ℕ × ℕ) → is_between u v l ≡ true → ((l.0 ≡ u) × (l.1 ≡ v)) ⊎ ((l.0 ≡ v) × (l.1 ≡ u))
joined_from u v l e =
    elim (or_both (eqb l.0 u) (eqb l.1 v) (eqb l.0 v) (eqb l.1 u) e) [
      | inl t ↦ inl (eqb-true _ _ t.0, eqb-true _ _ t.1)
      | inr t ↦ inr (eqb-true _ _ t.0, eqb-true _ _ t.1)
    ]

pub is_between_alike : (u v : ℕ) (l : ℕ × ℕ) → is_between u v l ≡ true → (x : ℕ × ℕ)
    → is_between l.0 l.1 x ≡ is_between u v x
is_between_alike u v l e x =
    elim (joined_from u v l e) [
      | inl t ↦ rw (t.0, t.1) refl
      | inr t ↦ rw (t.0, t.1) (or_comm ((eqb x.0 v) && (eqb x.1 u)) ((eqb x.0 u) && (eqb x.1 v)))
    ]

pub some_joined : (links : List (ℕ × ℕ)) (u v : ℕ) → 1 ≤ count_by (is_between u v) links → (k : ℕ) × (k < length links)
    × (is_between u v (get_or links k (u, v)) ≡ true)
some_joined [] u v l = absurd (omega arith)
some_joined (x ∷ xs) u v l =
    let weight : ℕ × ℕ → ℕ = λ y. weigh (is_between u v y) in
    elim (cases_Bool (is_between u v x)) [
      | inl e ↦ (0, omega arith, e)
      | inr e ↦
          let z : weight x ≡ 0 = rw e refl in
          let t = some_joined xs u v (omega (arith, sum_by-cons weight x xs, z)) in
          (suc t.0, omega (arith, t.1), t.2)
    ]

-- no two nodes are joined twice
pub not_twice : (links : List (ℕ × ℕ)) (u v : ℕ) → AreSingle links → count_by (is_between u v) links ≤ 1
not_twice links u v single =
    elim (cases_le_one (count_by (is_between u v) links)) [
      | inl l ↦ l
      | inr many ↦
          let some = some_joined links u v (omega arith) in
          let link = get_or links some.0 (u, v) in
          let same : count_by (is_between link.0 link.1) links ≡ count_by (is_between u v) links =
          count_agrees (is_between link.0 link.1) (is_between u v) links (is_between_alike u v link some.2) in
          omega (arith, single some.0 (u, v) some.1, same)
    ]

-- the links of a network do not join two nodes in both directions
pub record IsOneWay (links : List (ℕ × ℕ)) : Type 0 where
  pub no_return : (u v : ℕ) → Points links u v → ¬ Points links v u

-- no two nodes are linked in both directions
pub one_way : (links : List (ℕ × ℕ)) → HasNoSelfLink links → AreSingle links → IsOneWay links
one_way links bar single = record {
  no_return = λ u v p q.
      let d : ℕ × ℕ = (u, v) in
      let first : get_or links p.0 d ≡ d = p.2 in
      let second : get_or links q.0 d ≡ (v, u) = get_or_default links q.0 d (v, u) q.1 ∙ q.2 in
      let once : count_by (is_between u v) links ≡ 1 =
      subst (λ (l : ℕ × ℕ). count_by (is_between l.0 l.1) links ≡ 1) first (single p.0 d p.1) in
      let yes : is_between u v (get_or links p.0 d) ≡ true = rw first (is_between_itself d) in
      let also : is_between u v (get_or links q.0 d) ≡ true = rw second (is_between_back u v) in
      let apart : u ≡ v → ⊥ = subst (λ (l : ℕ × ℕ). l.0 ≡ l.1 → ⊥) first (bar p.0 d p.1) in
      elim (cases_lt p.0 q.0) [
        | inl lt ↦ absurd (omega (arith, once, two_pass (is_between u v) links p.0 q.0 d lt q.1 yes also))
        | inr ge ↦ elim (cases_eq p.0 q.0) [
          | inl e ↦ apart (ap (λ (l : ℕ × ℕ). l.0) (sym first ∙ ap (λ (k : ℕ). get_or links k d) e ∙ second))
          | inr ne ↦ absurd (omega (
            arith,
            once,
            two_pass (is_between u v) links q.0 p.0 d (omega (arith, ne)) p.1 also yes,
          ))
        ]
      ];
}

-- cycles along the same links
pub path_carries : (a b : List (ℕ × ℕ)) → ((u v : ℕ) → Points a u v → Points b u v) → (u : ℕ) (vs : List ℕ)
    → IsPath a u vs → IsPath b u vs
path_carries a b to u [] p = tt
path_carries a b to u (v ∷ vs) p = (to u v p.0, path_carries a b to v vs p.1)

pub walk_carries : (a b : List (ℕ × ℕ)) → ((u v : ℕ) → Points a u v → Points b u v) → (u : ℕ) (vs : List ℕ)
    → IsClosedWalk a u vs → IsClosedWalk b u vs
walk_carries a b to u [] p = p
walk_carries a b to u (v ∷ vs) p = (path_carries a b to u (v ∷ vs) p.0, p.1)
