-- The lowest two nodes that more than one link joins, from half-links in order.
use Rattle.std.proofs.Common.{IsPermutation, List, arith, count_by, get_or, inl, inr, length, suc, zero, ℕ, ◌+◌, ◌-◌}
use Rattle.std.proofs.Common.{◌<◌, ◌∙◌, ◌≡◌, ◌≤◌, ◌⊎◌}
use Rattle.std.proofs.Common.{refl, subst, sym}
use Rattle.std.proofs.lemmas.Bool.{cases_lt}
use Rattle.std.proofs.lemmas.List.{get_or_default}
use Rattle.fr_graph.proofs.Building.{at_place, count_same}
use Rattle.fr_graph.proofs.Counting.{at_most_one}
use Rattle.fr_graph.proofs.HalfLinks.{rising_up_to}
use Rattle.fr_graph.proofs.Ordering.{up_trans}
use Rattle.fr_graph.specs.Evidence.{AreJoinedTwice, IsLowest}
use Rattle.fr_graph.specs.Halves.{AreHalvesInOrder, halves_of, is_at, place_of}
use Rattle.fr_graph.specs.Links.{HasNoSelfLink}
use Rattle.fr_graph.specs.Order.{IsBefore, IsNotAfter}
use Rattle.fr_graph.specs.declared.half_links.HalfLink.{HalfLink}

before_or_not : (p q : ℕ × ℕ) → IsBefore q p ⊎ IsNotAfter p q
before_or_not p q = elim (cases_lt q.0 p.0) [
  | inl l ↦ inl (inl l)
  | inr ge ↦ elim (cases_lt p.0 q.0) [
    | inl l ↦ inr (inl l)
    | inr le ↦ elim (cases_lt q.1 p.1) [ inl l ↦ inl (inr (omega arith, l)) | inr h ↦ inr (inr (omega arith, h)) ]
  ]
]

not_both : {p q : ℕ × ℕ} → IsBefore q p → ¬ IsNotAfter p q
not_both (inl a) (inl b) = omega arith
not_both (inl a) (inr b) = omega arith
not_both (inr a) (inl b) = omega arith
not_both (inr a) (inr b) = omega arith

same_place : (h g : HalfLink) → h.node ≡ g.node → h.neighbour ≡ g.neighbour → ¬ IsBefore (place_of h) (place_of g)
same_place h g e f (inl a) = omega arith
same_place h g e f (inr a) = omega arith

-- half-links in order do not fall at any distance
order_far : (halves : List HalfLink) → AreHalvesInOrder halves → (i far : ℕ) (d : HalfLink) → i + far < length halves
    → IsNotAfter (place_of (get_or halves i d)) (place_of (get_or halves (i + far) d))
order_far halves order i zero d l = let e : i + 0 ≡ i = omega arith in rw e (inr (refl, omega arith))
order_far halves order i (suc far) d l =
    let e : i + suc far ≡ (i + far) + 1 = omega arith in
    rw e (up_trans (order_far halves order i far d (omega arith)) (order (i + far) d (omega arith)))

-- if half-links in order increase before place i, none at two places is before the one at i
pub lowest_at : (halves : List HalfLink) (i : ℕ) (d : HalfLink) → AreHalvesInOrder halves
    → ((k : ℕ) (e : HalfLink) → k + 1 < i
    → IsBefore (place_of (get_or halves k e)) (place_of (get_or halves (k + 1) e)))
    → i < length halves → (x y : ℕ) → 2 ≤ count_by (is_at x y) halves → IsNotAfter (place_of (get_or halves i d)) (x, y)
lowest_at halves i d order rising inside x y many =
    elim (before_or_not (place_of (get_or halves i d)) (x, y)) [
      | inr not_after ↦ not_after
      | inl before ↦ absurd (omega (
        arith,
        many,
        at_most_one (is_at x y) halves (λ a b e less l here there.
            let p = at_place x y (get_or halves a e) here in
            let q = at_place x y (get_or halves b e) there in
            elim (cases_lt b i) [
              | inl early ↦ same_place (get_or halves a e) (get_or halves b e) (p.0 ∙ sym q.0) (p.1
                  ∙ sym q.1) (rising_up_to halves i rising a b e less early)
              | inr late ↦
                  let far : i + (b - i) ≡ b = omega arith in
                  let up = rw far at (order_far halves order i (b - i) e (omega (arith, far, l))) in
                  let at : place_of (get_or halves b e) ≡ (x, y) = cc (q.0, q.1) in
                  let same : get_or halves i d ≡ get_or halves i e = get_or_default halves i d e inside in
                  not_both before (rw same (subst (λ (p : ℕ × ℕ). IsNotAfter (place_of (get_or halves i e)) p) at up))
            ]),
      ))
    ]

node_least : {u v x y : ℕ} → IsNotAfter (u, v) (x, y) → u ≤ x
node_least (inl a) = omega arith
node_least (inr a) = omega arith

neighbour_least : {u v y : ℕ} → IsNotAfter (u, v) (u, y) → v ≤ y
neighbour_least (inl a) = omega arith
neighbour_least (inr a) = omega arith

-- so the links join these two nodes twice, and no lower ones
pub lowest_twice : (listed : List (ℕ × ℕ)) (halves : List HalfLink) (u v : ℕ) → IsPermutation (halves_of listed) halves
    → HasNoSelfLink listed → 2 ≤ count_by (is_at u v) halves
    → ((x y : ℕ) → 2 ≤ count_by (is_at x y) halves → IsNotAfter (u, v) (x, y))
    → IsLowest (λ x. (y : ℕ) × AreJoinedTwice listed x y) u × IsLowest (AreJoinedTwice listed u) v
lowest_twice listed halves u v both bar found lowest =
    let same = λ (x y : ℕ). count_same listed halves x y both bar in
    let here : AreJoinedTwice listed u v = omega (arith, same u v, found) in (
      record {
        holds = (v, here);
        least = λ x some. node_least (lowest x some.0 (omega (arith, same x some.0, some.1)));
      },
      record { holds = here; least = λ y twice. neighbour_least (lowest u y (omega (arith, same u y, twice))) },
    )
