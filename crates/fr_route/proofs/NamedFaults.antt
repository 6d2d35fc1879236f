-- Links that have a fault have one that names its evidence, and so does an edit that is refused.
use Rattle.std.proofs.Common.{Any, Bool, Contains, List, Some, [], add-one, ap, arith, count_by, drop, eqb, false, find}
use Rattle.std.proofs.Common.{get_or}
use Rattle.std.proofs.Common.{inl, inr, length, length-append, length-drop, refl, subst, suc, sym, take, true, zero, ℕ}
use Rattle.std.proofs.Common.{⊎_elim, ◌+◌, ◌-◌, ◌++◌, ◌<◌, ◌≤◌, ◌∙◌, ◌∷◌, ◌≡◌, ◌≢◌, ◌⊎◌}
use Rattle.std.proofs.lemmas.Bool.{cases_Bool, cases_eq, cases_lt, eq-eqb, eqb-true, le-leb, leb-true}
use Rattle.std.proofs.lemmas.List.{get_or-drop, get_or_default, length_push}
use Rattle.std.proofs.lemmas.List.Concat.{flat_map-cons}
use Rattle.std.proofs.lemmas.List.Elements.{Contains-append_left, Contains-push, Contains-push_cases}
use Rattle.std.specs.List.{IsDistinct}
use Rattle.std.specs.Prelude.{nat_le}
use Rattle.std.specs.declared.vec.Vec.{Vec}
use Rattle.std.specs.declared.alloc.Global.{Global}
use Rattle.fr_graph.proofs.AddedLinks.{added, closed_back, count_added, in_range, out_of_range_added}
use Rattle.fr_graph.proofs.Batches.{all_made_one}
use Rattle.fr_graph.proofs.Building.{faultless_sorted, permuted_net}
use Rattle.fr_graph.proofs.Counting.{count_agrees, weigh}
use Rattle.fr_graph.proofs.Ordering.{in_order_permutes}
use Rattle.fr_graph.proofs.Cycles.{cycle_from_steps, points_at}
use Rattle.fr_graph.proofs.Linking.{is_between_alike, joined_from, not_twice, some_joined}
use Rattle.fr_graph.proofs.Lists.{push_cases}
use Rattle.fr_graph.proofs.Members.{Contains-cases, Contains-head, Contains-none, Contains-tail, cases_some}
use Rattle.fr_graph.proofs.Neighbours.{cases_points}
use Rattle.fr_graph.proofs.Refusing.{no_self_link, range_stands}
use Rattle.fr_graph.specs.Batches.{AreMade, IsBatchFault, IsEditFault, IsMade}
use Rattle.fr_graph.specs.Edits.{IsJoinFault, without}
use Rattle.fr_graph.specs.Faults.{IsFaultless, IsFirstFault, IsNetworkOf, IsOutOfRange}
use Rattle.fr_graph.specs.Limits.{IsWithinLimits, most_links, most_nodes}
use Rattle.fr_graph.specs.Links.{AreBelow, AreSingle, HasNoSelfLink, HasPath, IsAcyclic, IsClosedWalk, IsCycle, IsPath}
use Rattle.fr_graph.specs.Links.{Points, end_of, is_between}
use Rattle.fr_graph.specs.Network.{Network}
use Rattle.fr_graph.specs.Order.{in_order}
use Rattle.fr_graph.specs.declared.edit.Edit.{Edit}
use Rattle.fr_graph.specs.declared.edit.Edit.TheVariants.{Add, Cut, Join}
use Rattle.fr_graph.specs.declared.fault.EditFault.{EditFault}
use Rattle.fr_graph.specs.declared.fault.NetFault.{NetFault}
use Rattle.fr_graph.specs.declared.fault.NetFault.TheVariants.{Cycle, Memory, NoLink, Range, SelfLink, TooMany, Twice}
use Rattle.fr_core.proofs.Pigeons.{IsDistinct-more, IsDistinct-none, distinct_length}
use Rattle.fr_core.proofs.Searching.{cases_below}
use Rattle.fr_core.proofs.Turning.{All-from_Contains}
use Rattle.fr_route.proofs.FirstFaults.{PathOf, again, below_of, closed_begins, first_part, part_to, path_in_range}
use Rattle.fr_route.proofs.FirstFaults.{path_on, path_or_not}
use Rattle.fr_route.proofs.FirstFaults.{single_or_twice, vec_with}
use Rattle.fr_graph.specs.Evidence.{AreJoinedTwice, IsLowest, IsLowestCycle, IsLowestCycleBy, IsWayBy, LeadsIn}
use Rattle.fr_graph.specs.Evidence.{LeadsIntoCycle, LeadsTowards}
use Rattle.fr_graph.specs.Evidence.{NamesFirst, NamesInBatch, NamesOfEdit, NamesOfLink, ends_of}

-- a link to a node that leads into a cycle
into_before : (links : List (ℕ × ℕ)) (x y : ℕ) → Points links x y → LeadsIntoCycle links y → LeadsIntoCycle links x
into_before links x y step into = record {
  node = into.node;
  path = (y ∷ into.path.0, ((step, into.path.1.0), into.path.1.1));
  rest = into.rest;
  closed = into.closed;
}

-- a path visits no node twice, or its first node leads into a cycle
distinct_or_into : (links : List (ℕ × ℕ)) (u : ℕ) (vs : List ℕ) → IsPath links u vs
    → IsDistinct eqb (u ∷ vs) ⊎ LeadsIntoCycle links u
distinct_or_into links u [] path = inl (IsDistinct-more u [] (λ y h. absurd (Contains-none y h)) IsDistinct-none)
distinct_or_into links u (v ∷ vs) path = ⊎_elim
    (λ distinct. ⊎_elim
    (λ back.
    let p = part_to links u (v ∷ vs) back.0 path back.1 in
    inr (record { node = u; path = ([], (tt, refl)); rest = p.0 ∷ p.1; closed = (p.2, p.3 ∙ sym back.2) }))
    (λ none. inl (IsDistinct-more u (v ∷ vs) none distinct))
    (cases_some (λ y. u ≡ y) (cases_eq u) (v ∷ vs)))
    (λ into. inr (into_before links u v path.0 into))
    (distinct_or_into links v vs path.1)

-- from a node that leads into a cycle, paths have any length
any_length : (links : List (ℕ × ℕ)) (x k : ℕ) → LeadsIntoCycle links x → PathOf links k x
any_length links x k into =
    let round = again links into.node into.rest into.closed k in
    let on = path_on links x into.node into.path.0 round.0 into.path.1.0 into.path.1.1 round.1 in
    first_part links k x (into.path.0 ++ round.0) on.0 (omega (arith, round.3, length-append into.path.0 round.0))

-- a link leads from x to w, which leads into a cycle
abbrev OnInto : List (ℕ × ℕ) → ℕ → ℕ → Type 0
OnInto links x w = Points links x w × LeadsIntoCycle links w

-- the next node of a node that leads into a cycle
one_on : (links : List (ℕ × ℕ)) (x : ℕ) → LeadsIntoCycle links x → (w : ℕ) × Points links x w × LeadsIntoCycle links w
one_on links x into = go into.path.0 into.path.1.0 into.node into.path.1.1 into.rest into.closed
  where
    round : (y : ℕ) (rest : List ℕ) → IsClosedWalk links y rest → (w : ℕ) × Points links y w × LeadsIntoCycle links w
    round y [] closed = absurd closed
    round y (v ∷ vs) closed =
        (v, closed.0.0, record { node = y; path = (vs, (closed.0.1, closed.1)); rest = v ∷ vs; closed = closed })

    go : (vs : List ℕ) → IsPath links x vs → (y : ℕ) → end_of x vs ≡ y → (rest : List ℕ) → IsClosedWalk links y rest
        → (w : ℕ) × Points links x w × LeadsIntoCycle links w
    go [] path y ends rest closed =
        subst (λ (z : ℕ). (w : ℕ) × Points links z w × LeadsIntoCycle links w) (sym ends) (round y rest closed)
    go (v ∷ vs) path y ends rest closed =
        (v, path.0, record { node = y; path = (vs, (path.1, ends)); rest = rest; closed = closed })

module _ (n : ℕ) (links : List (ℕ × ℕ)) (below : AreBelow n links) where
  into_below : (x : ℕ) → LeadsIntoCycle links x → x < n
  into_below x into = let on = one_on links x into in (below_of n links x on.0 below on.1).0

  into_or_not : (x : ℕ) → LeadsIntoCycle links x ⊎ ¬ LeadsIntoCycle links x
  into_or_not x =
      ⊎_elim (λ long. inl (leads long.0 long.1 long.2)) (λ none. inr (λ into. none (any_length links x (suc n) into)))
      (path_or_not links (suc n) x)
    where
      leads : (vs : List ℕ) → IsPath links x vs → length vs ≡ suc n → LeadsIntoCycle links x
      leads [] path long = absurd (omega (arith, long))
      leads (v ∷ vs) path long = ⊎_elim
          (λ distinct. absurd (omega (
            arith,
            long,
            distinct_length n (x ∷ (v ∷ vs)) distinct
                (path_in_range n links below x (v ∷ vs) (below_of n links x v below path.0).0 path),
          )))
          (λ into. into)
          (distinct_or_into links x (v ∷ vs) path)

  goes_on : (x : ℕ) → LeadsIntoCycle links x → (y : ℕ) × LeadsIn links x y
  goes_on x into = ⊎_elim
      (λ l. (l.0, record { holds = l.2; least = l.3 }))
      (λ none. let on = one_on links x into in absurd (none on.0 (into_below on.0 on.2) (on.1, on.2)))
      (cases_below (OnInto links x) on_or_not n)
    where
      on_or_not : (w : ℕ) → OnInto links x w ⊎ ¬ OnInto links x w
      on_or_not w = ⊎_elim
          (λ p. ⊎_elim (λ q. inl (p, q)) (λ none. inr (λ h. none h.1)) (into_or_not w))
          (λ none. inr (λ h. none h.0))
          (cases_points links x w)

  module _ (start : ℕ) (begins : LeadsIntoCycle links start) where
    -- the way from the start, step by step
    abbrev place : ℕ → (y : ℕ) × LeadsIntoCycle links y
    place zero = (start, begins)
    place (suc k) = let on = goes_on (place k).0 (place k).1 in (on.0, on.1.holds.1)

    abbrev at : ℕ → ℕ
    at k = (place k).0

    step_at : (k : ℕ) → LeadsIn links (at k) (at (suc k))
    step_at k = (goes_on (place k).0 (place k).1).1

    -- the nodes before step k, the last one first
    abbrev before : ℕ → List ℕ
    before zero = []
    before (suc k) = at k ∷ before k

    before_is : (k y : ℕ) → Contains (before k) y → (i : ℕ) × (i < k) × (at i ≡ y)
    before_is zero y h = absurd (Contains-none y h)
    before_is (suc k) y h =
        ⊎_elim (λ e. (k, omega arith, e)) (λ r. let i = before_is k y r in (i.0, omega (arith, i.1), i.2))
        (Contains-cases y (at k) (before k) h)

    length_before : (k : ℕ) → length (before k) ≡ k
    length_before zero = refl
    length_before (suc k) = ap suc (length_before k)

    abbrev Met : ℕ → Type 0
    Met j = (i : ℕ) × (i < j) × (at i ≡ at j)

    met_or_not : (j : ℕ) → Met j ⊎ ¬ Met j
    met_or_not j = ⊎_elim (λ l. inl (l.0, l.1, l.2)) (λ none. inr (λ m. none m.0 m.1 m.2))
        (cases_below (λ i. at i ≡ at j) (λ i. cases_eq (at i) (at j)) j)

    distinct_before : (k : ℕ) → ((j : ℕ) → j < k → ¬ Met j) → IsDistinct eqb (before k)
    distinct_before zero none = IsDistinct-none
    distinct_before (suc k) none = IsDistinct-more (at k) (before k)
        (λ y h e. let i = before_is k y h in none k (omega arith) (i.0, i.1, i.2 ∙ sym e))
        (distinct_before k (λ j l. none j (omega (arith, l))))

    first_met : (j : ℕ) × (j < suc n) × Met j × ((w : ℕ) → Met w → j ≤ w)
    first_met = ⊎_elim
        (λ l. l)
        (λ none. absurd (omega (
          arith,
          length_before (suc n),
          distinct_length n (before (suc n)) (distinct_before (suc n) none)
              (λ q h. let i = before_is (suc n) q h in subst (λ (z : ℕ). z
              < n) i.2 (into_below (at i.0) (place i.0).1)),
        )))
        (cases_below Met met_or_not (suc n))

    -- the first k nodes of the way
    abbrev way : ℕ → List ℕ
    way zero = []
    way (suc k) = way k ++ at k ∷ []

    length_way : (k : ℕ) → length (way k) ≡ k
    length_way zero = refl
    length_way (suc k) = omega (arith, length_push (way k) (at k), length_way k)

    way_at : (k i : ℕ) → i < k → get_or (way k) i 0 ≡ at i
    way_at zero i l = absurd (omega (arith, l))
    way_at (suc k) i l = ⊎_elim
        (λ r. r.1 ∙ way_at k i (omega (arith, r.0, length_way k)))
        (λ r. r.1 ∙ ap at (sym (r.0 ∙ length_way k)))
        (push_cases (way k) (at k) i (omega (arith, l, length_way (suc k))))

    module _ (lowest : (y : ℕ) → LeadsIntoCycle links y → start ≤ y) where
      abbrev last : ℕ
      last = first_met.0

      abbrev back : ℕ
      back = first_met.2.0

      earlier : back < last
      earlier = first_met.2.1

      abbrev all : List ℕ
      all = way (suc last)

      is_at : (i : ℕ) → i < suc last → get_or all i 0 ≡ at i
      is_at i l = way_at (suc last) i l

      again_at : get_or all last 0 ≡ get_or all back 0
      again_at = is_at last (omega arith) ∙ sym first_met.2.2 ∙ sym (is_at back (omega (arith, earlier)))

      steps : IsWayBy (LeadsIn links) all
      steps k l =
          let l' : k + 1 < suc last = omega (arith, l, length_way (suc last)) in
          rw (is_at k (omega (arith, l')), is_at (k + 1) l', add-one) (step_at k)

      abbrev walk : List ℕ
      walk = drop back all

      walk_at : (i : ℕ) → back + i < suc last → get_or walk i 0 ≡ at (back + i)
      walk_at i l = get_or-drop back all i 0 ∙ is_at (back + i) l

      long : last - back + 1 ≡ length walk
      long = omega (arith, earlier, length-drop back all, length_way (suc last))

      is_cycle : IsCycle links walk
      is_cycle = cycle_from_steps links walk (last - back) long (omega (arith, earlier))
          (let e : back + (last - back) ≡ last = omega (arith, earlier) in
          let z : back ≡ back + 0 = omega arith in
          walk_at (last - back) (omega (arith, e)) ∙ ap at e ∙ sym first_met.2.2 ∙ ap at z ∙ sym (walk_at 0 (omega (
            arith,
            earlier,
          ))))
          (λ k h.
          let l : back + (k + 1) < suc last = omega (arith, h, long) in
          let e : back + (k + 1) ≡ suc (back + k) = omega arith in
          rw (walk_at k (omega (arith, l)), walk_at (k + 1) l, e) (step_at (back + k)).holds.0)

      is_named : IsLowestCycle links walk
      is_named = record {
        way = all;
        last = last;
        whole = omega (arith, length_way (suc last));
        begins =
            subst (λ (z : ℕ). IsLowest (LeadsIntoCycle links) z) (sym (is_at 0 (omega arith))) (record {
              holds = begins;
              least = lowest;
            });
        goes_on = steps;
        back = back;
        earlier = earlier;
        again = again_at;
        first = λ i j lt l same.
            omega (
              arith,
              l,
              first_met.3 j (i, lt, sym (is_at i (omega (arith, lt, l))) ∙ same ∙ is_at j (omega (arith, l))),
            );
        is = refl;
      }

      -- the cycle into which the lowest node that leads into one leads
      named_cycle : (walk : List ℕ) × IsLowestCycle links walk × IsCycle links walk × (length walk ≤ suc n)
      named_cycle = (walk, is_named, is_cycle, omega (arith, length-drop back all, length_way (suc last), first_met.1))

-- the first element that passes a test, or none passes
first_or_none : {X : Type 0} (p : X → Bool) (xs : List X)
    → ((x : X) × (find p xs ≡ Some x) × (p x ≡ true) × Contains xs x)
    ⊎ ((x : X) → Contains xs x → p x ≡ false)
first_or_none p [] = inr (λ x h. absurd (Contains-none x h))
first_or_none p (y ∷ ys) =
    elim (cases_Bool (p y)) [
      | inl e ↦ inl (y, rw e refl, e, Contains-head y ys)
      | inr e ↦ elim (first_or_none p ys) [
        | inl r ↦ inl (r.0, rw e r.1, r.2, Contains-tail r.0 y ys r.3)
        | inr none ↦ inr (λ x h. ⊎_elim (λ s. subst (λ z. p z ≡ false) s e) (none x) (Contains-cases x y ys h))
      ]
    ]

-- an end of the links is an end of one of them
end_of_one : (links : List (ℕ × ℕ)) (x : ℕ) → Contains (ends_of links) x
    → (l : ℕ × ℕ) × Contains links l × ((l.0 ≡ x) ⊎ (l.1 ≡ x))
end_of_one [] x h = absurd (Contains-none x h)
end_of_one (l ∷ ls) x h =
    let rest : Contains (l.0 ∷ (l.1 ∷ ends_of ls)) x = rw (← flat_map-cons (λ (k : ℕ × ℕ). k.0 ∷ (k.1 ∷ [])) l ls) h in
    ⊎_elim (λ e. (l, Contains-head l ls, inl e))
    (λ r. ⊎_elim (λ e. (l, Contains-head l ls, inr e))
    (λ s. let one = end_of_one ls x s in (one.0, Contains-tail one.0 l ls one.1, one.2))
    (Contains-cases x l.1 (ends_of ls) r))
    (Contains-cases x l.0 (l.1 ∷ ends_of ls) rest)

both_ends : (links : List (ℕ × ℕ)) (l : ℕ × ℕ) → Contains links l
    → Contains (ends_of links) l.0 × Contains (ends_of links) l.1
both_ends [] l h = absurd (Contains-none l h)
both_ends (k ∷ ks) l h =
    let is : ends_of (k ∷ ks) ≡ k.0 ∷ (k.1 ∷ ends_of ks) = flat_map-cons (λ (j : ℕ × ℕ). j.0 ∷ (j.1 ∷ [])) k ks in
    let back : (x : ℕ) → Contains (k.0 ∷ (k.1 ∷ ends_of ks)) x → Contains (ends_of (k ∷ ks)) x =
    λ x h. subst (λ (xs : List ℕ). Contains xs x) (sym is) h in
    ⊎_elim
    (λ e. subst (λ (j : ℕ × ℕ). Contains (ends_of (k ∷ ks)) j.0 × Contains (ends_of (k ∷ ks)) j.1) e (
      back k.0 (Contains-head k.0 (k.1 ∷ ends_of ks)),
      back k.1 (Contains-tail k.1 k.0 (k.1 ∷ ends_of ks) (Contains-head k.1 (ends_of ks))),
    ))
    (λ r.
    let both = both_ends ks l r in (
      back l.0 (Contains-tail l.0 k.0 (k.1 ∷ ends_of ks) (Contains-tail l.0 k.1 (ends_of ks) both.0)),
      back l.1 (Contains-tail l.1 k.0 (k.1 ∷ ends_of ks) (Contains-tail l.1 k.1 (ends_of ks) both.1)),
    ))
    (Contains-cases l k ks h)

not_le : (n x : ℕ) → nat_le n x ≡ false → x < n
not_le n x fails = ⊎_elim (λ l. l) (λ g. let bad : ⊥ = cc (le-leb n x g, fails) in absurd bad) (cases_lt x n)

-- all ends are nodes, or a first one is not
below_or_named : (n : ℕ) (links : List (ℕ × ℕ)) → AreBelow n links
    ⊎ ((x : ℕ) × (find (nat_le n) (ends_of links) ≡ Some x) × (n ≤ x)
    × Any (λ (l : ℕ × ℕ). (l.0 ≡ x) ⊎ (l.1 ≡ x)) links)
below_or_named n links =
    elim (first_or_none (nat_le n) (ends_of links)) [
      | inl r ↦
          let one = end_of_one links r.0 r.3 in
          inr (r.0, r.1, leb-true n r.0 r.2, (one.1.0, one.0, one.1.1, one.1.2, one.2))
      | inr none ↦ inl (All-from_Contains (λ (l : ℕ × ℕ). (l.0 < n) × (l.1 < n)) links (λ l h.
          let ends = both_ends links l h in (not_le n l.0 (none l.0 ends.0), not_le n l.1 (none l.1 ends.1))))
    ]

itself : (l : ℕ × ℕ) → l.0 ≡ l.1 → l ≡ (l.0, l.0)
itself (a, b) e = cc e

-- no link joins a node with itself, or a first one does
self_or_named : (links : List (ℕ × ℕ)) → HasNoSelfLink links
    ⊎ ((u : ℕ) × (find (λ (l : ℕ × ℕ). eqb l.0 l.1) links ≡ Some (u, u)) × Contains links (u, u))
self_or_named links =
    elim (first_or_none (λ (l : ℕ × ℕ). eqb l.0 l.1) links) [
      | inl r ↦
          let is = itself r.0 (eqb-true r.0.0 r.0.1 r.2) in
          inr (r.0.0, r.1 ∙ ap Some is, subst (λ (l : ℕ × ℕ). Contains links l) is r.3)
      | inr none ↦ inl (All-from_Contains (λ (l : ℕ × ℕ). ¬ (l.0 ≡ l.1)) links (λ l h e. cc (
        eq-eqb l.0 l.1 e,
        none l h,
      )))
    ]

-- two links join x and y, or they do not; then both are nodes
twice_or_not : (links : List (ℕ × ℕ)) (x y : ℕ) → AreJoinedTwice links x y ⊎ ¬ AreJoinedTwice links x y
twice_or_not links x y =
    ⊎_elim (λ few. inr (λ many. omega (arith, few, many))) inl (cases_lt (count_by (is_between x y) links) 2)

twice_below : (n : ℕ) (links : List (ℕ × ℕ)) (x y : ℕ) → AreBelow n links → AreJoinedTwice links x y → (x < n) × (y < n)
twice_below n links x y below many =
    let k = some_joined links x y (omega (arith, many)) in
    elim (joined_from x y (get_or links k.0 (x, y)) k.2) [
      | inl t ↦ below_of n links x y below (points_at links k.0 x y (x, y) k.1 t.0 t.1)
      | inr t ↦ let b = below_of n links y x below (points_at links k.0 y x (x, y) k.1 t.0 t.1) in (b.1, b.0)
    ]

-- no two links join the same nodes, or the lowest nodes that two join are named
single_or_named : (n : ℕ) (links : List (ℕ × ℕ)) → AreBelow n links → AreSingle links
    ⊎ ((u : ℕ) × (v : ℕ) × AreJoinedTwice links u v × IsLowest (λ x. (y : ℕ) × AreJoinedTwice links x y) u
    × IsLowest (AreJoinedTwice links u) v)
single_or_named n links below =
    elim (single_or_twice links) [
      | inl single ↦ inl single
      | inr t ↦ inr (lowest t.0 t.1 t.2)
    ]
  where
    some_or_not : (x : ℕ) → ((y : ℕ) × AreJoinedTwice links x y) ⊎ ¬ ((y : ℕ) × AreJoinedTwice links x y)
    some_or_not x =
        ⊎_elim (λ l. inl (l.0, l.2)) (λ none. inr (λ h. none h.0 (twice_below n links x h.0 below h.1).1 h.1))
        (cases_below (AreJoinedTwice links x) (twice_or_not links x) n)

    with_node : (u : ℕ) → IsLowest (λ x. (y : ℕ) × AreJoinedTwice links x y) u
        → (u : ℕ) × (v : ℕ) × AreJoinedTwice links u v
        × IsLowest (λ x. (y : ℕ) × AreJoinedTwice links x y) u × IsLowest (AreJoinedTwice links u) v
    with_node u is = ⊎_elim
        (λ l. (u, l.0, l.2, is, record { holds = l.2; least = l.3 }))
        (λ none. absurd (none is.holds.0 (twice_below n links u is.holds.0 below is.holds.1).1 is.holds.1))
        (cases_below (AreJoinedTwice links u) (twice_or_not links u) n)

    lowest : (x y : ℕ) → AreJoinedTwice links x y → (u : ℕ) × (v : ℕ) × AreJoinedTwice links u v
        × IsLowest (λ x. (y : ℕ) × AreJoinedTwice links x y) u × IsLowest (AreJoinedTwice links u) v
    lowest x y many = ⊎_elim
        (λ l. with_node l.0 (record { holds = l.2; least = l.3 }))
        (λ none. absurd (none x (twice_below n links x y below many).0 (y, many)))
        (cases_below (λ z. (w : ℕ) × AreJoinedTwice links z w) some_or_not n)

-- links contain no cycle, or the lowest one is named
acyclic_or_named : (n : ℕ) (links : List (ℕ × ℕ)) → AreBelow n links → IsAcyclic links
    ⊎ ((walk : List ℕ) × IsLowestCycle links walk × IsCycle links walk × (length walk ≤ suc n))
acyclic_or_named n links below =
    elim (cases_below (LeadsIntoCycle links) (into_or_not n links below) n) [
      | inl l ↦ inr (named_cycle n links below l.0 l.2 l.3)
      | inr none ↦ inl (λ u vs closed. none u (closed_begins n links u vs below closed)
          (record { node = u; path = ([], (tt, refl)); rest = vs; closed = closed }))
    ]

-- a fault of links, which names its evidence
abbrev pub NamedFault : ℕ → List (ℕ × ℕ) → Type 0
NamedFault n links = (fault : NetFault) × IsFirstFault n links fault × NamesFirst n links fault

-- links have no fault, or a first fault that names its evidence
pub faultless_or_named : (n : ℕ) (links : List (ℕ × ℕ)) → IsFaultless n links ⊎ NamedFault n links
faultless_or_named n links = ⊎_elim
    (λ many. inr (TooMany, inl many, tt))
    (λ nodes. ⊎_elim
    (λ many. inr (TooMany, inr many, tt))
    (λ few. ends (record { nodes_few = nodes; links_few = few }))
    (cases_lt most_links (length links)))
    (cases_lt most_nodes n)
  where
    cycles : IsWithinLimits n links → 0 < n → AreBelow n links → HasNoSelfLink links → AreSingle links
        → IsFaultless n links ⊎ NamedFault n links
    cycles limits some below no_self single =
        elim (acyclic_or_named n links below) [
          | inl acyclic ↦ inl (record {
            limits = limits;
            some = some;
            is_net = record { in_range = below; no_self = no_self; single = single; acyclic = acyclic };
          })
          | inr c ↦
              let walk = vec_with c.0 (omega (arith, c.3, limits.nodes_few)) in
              inr (
                Cycle walk.0,
                (
                  limits,
                  record { some = some; below = below },
                  no_self,
                  single,
                  subst (IsCycle links) (sym walk.1) c.2,
                ),
                subst (IsLowestCycle links) (sym walk.1) c.1,
              )
        ]

    pairs : IsWithinLimits n links → 0 < n → AreBelow n links → IsFaultless n links ⊎ NamedFault n links
    pairs limits some below =
        elim (self_or_named links) [
          | inr s ↦ inr (SelfLink s.0, (limits, record { some = some; below = below }, s.2), s.1)
          | inl no_self ↦ elim (single_or_named n links below) [
            | inl single ↦ cycles limits some below no_self single
            | inr t ↦ inr (Twice t.0 t.1, (limits, record { some = some; below = below }, no_self, t.2), (t.3, t.4))
          ]
        ]

    ends : IsWithinLimits n links → IsFaultless n links ⊎ NamedFault n links
    ends limits = ⊎_elim
        (λ some. ⊎_elim (pairs limits some) (λ p. inr (Range p.0, (limits, inr (some, p.2, p.3)), inr (some, p.1)))
        (below_or_named n links))
        (λ none. let none' : n ≡ 0 = omega (arith, none) in inr (
          Range 0,
          (limits, inl (none', refl)),
          inl (none', refl),
        ))
        (cases_lt 0 n)

-- a path from x to u of at most k links
abbrev Reaches : List (ℕ × ℕ) → ℕ → ℕ → ℕ → Type 0
Reaches links u k x = (vs : List ℕ) × IsPath links x vs × (end_of x vs ≡ u) × (length vs ≤ k)

-- a link from x to a node from which such a path leads
abbrev OnReaches : List (ℕ × ℕ) → ℕ → ℕ → ℕ → ℕ × ℕ → Type 0
OnReaches links u k x l = (l.0 ≡ x) × Reaches links u k l.1

reaches_or_not : (links : List (ℕ × ℕ)) (u k x : ℕ) → Reaches links u k x ⊎ ¬ Reaches links u k x
reaches_or_not links u zero x =
    ⊎_elim (λ e. inl ([], tt, e, omega arith)) (λ ne. inr (λ r. here r.0 r.2 r.3 ne)) (cases_eq x u)
  where
    here : (vs : List ℕ) → end_of x vs ≡ u → length vs ≤ 0 → x ≢ u → ⊥
    here [] e l ne = ne e
    here (v ∷ vs) e l ne = omega (arith, l)
reaches_or_not links u (suc k) x = ⊎_elim
    (λ e. inl ([], tt, e, omega arith))
    (λ ne. ⊎_elim
    (λ s.
    let l = s.0 in
    inl (l.1 ∷ s.2.1.0, (subst (λ (z : ℕ). Points links z l.1) s.2.0 s.1, s.2.1.1), s.2.1.2, omega (arith, s.2.1.3)))
    (λ none. inr (λ r. further ne none r.0 r.1 r.2 r.3))
    (cases_some (OnReaches links u k x) (on_or_not (reaches_or_not links u k)) links))
    (cases_eq x u)
  where
    on_or_not : ((y : ℕ) → Reaches links u k y ⊎ ¬ Reaches links u k y) → (l : ℕ × ℕ)
        → OnReaches links u k x l ⊎ ¬ OnReaches links u k x l
    on_or_not shorter l = ⊎_elim (λ e. ⊎_elim (λ r. inl (e, r)) (λ none. inr (λ h. none h.1)) (shorter l.1))
        (λ ne. inr (λ h. ne h.0)) (cases_eq l.0 x)

    further : x ≢ u → ((l : ℕ × ℕ) → Contains links l → ¬ OnReaches links u k x l) → (vs : List ℕ) → IsPath links x vs
        → end_of x vs ≡ u → length vs ≤ suc k → ⊥
    further ne none [] path e l = ne e
    further ne none (v ∷ vs) path e l = none (x, v) path.0 (refl, (vs, path.1, e, omega (arith, l)))

-- a link leads from x to w, from which links lead to u
abbrev OnTowards : List (ℕ × ℕ) → ℕ → ℕ → ℕ → Type 0
OnTowards links u x w = Points links x w × HasPath links w u

module _ (n : ℕ) (links : List (ℕ × ℕ)) (below : AreBelow n links) (acyclic : IsAcyclic links) (u : ℕ) where
  -- paths without a cycle are short
  short : (x : ℕ) (vs : List ℕ) → IsPath links x vs → length vs ≤ n
  short x [] path = omega arith
  short x (v ∷ vs) path = ⊎_elim
      (λ distinct. omega (
        arith,
        distinct_length n (x ∷ (v ∷ vs)) distinct
            (path_in_range n links below x (v ∷ vs) (below_of n links x v below path.0).0 path),
      ))
      (λ into. absurd (acyclic into.node into.rest into.closed))
      (distinct_or_into links x (v ∷ vs) path)

  leads_or_not : (x : ℕ) → HasPath links x u ⊎ ¬ HasPath links x u
  leads_or_not x =
      ⊎_elim (λ r. inl (r.0, (r.1, r.2))) (λ none. inr (λ p. none (p.0, p.1.0, p.1.1, short x p.0 p.1.0)))
      (reaches_or_not links u n x)

  towards_next : (x : ℕ) → x ≢ u → HasPath links x u → (y : ℕ) × LeadsTowards links u x y
  towards_next x apart path = go path.0 path.1.0 path.1.1
    where
      on_or_not : (w : ℕ) → OnTowards links u x w ⊎ ¬ OnTowards links u x w
      on_or_not w = ⊎_elim
          (λ p. ⊎_elim (λ q. inl (p, q)) (λ none. inr (λ h. none h.1)) (leads_or_not w))
          (λ none. inr (λ h. none h.0))
          (cases_points links x w)

      go : (vs : List ℕ) → IsPath links x vs → end_of x vs ≡ u → (y : ℕ) × LeadsTowards links u x y
      go [] p e = absurd (apart e)
      go (v ∷ vs) p e = ⊎_elim
          (λ l. (l.0, record { apart = apart; lowest = record { holds = l.2; least = l.3 } }))
          (λ none. absurd (none v (below_of n links x v below p.0).1 (p.0, (vs, (p.1, e)))))
          (cases_below (OnTowards links u x) on_or_not n)

  -- a way from x to u, always on to the lowest node from which links lead to u
  record Way (x most : ℕ) : Type 0 where
    way : List ℕ
    last : ℕ
    whole : last + 1 ≡ length way
    begins : get_or way 0 0 ≡ x
    goes_on : IsWayBy (LeadsTowards links u) way
    ends : get_or way last 0 ≡ u
    few : last ≤ most

  one_node : (most : ℕ) → Way u most
  one_node most = record {
    way = u ∷ [];
    last = 0;
    whole = refl;
    begins = refl;
    goes_on = λ k l. absurd (omega (arith, l));
    ends = refl;
    few = omega arith;
  }

  one_before : (x y most : ℕ) → LeadsTowards links u x y → Way y most → Way x (suc most)
  one_before x y most step w = record {
    way = x ∷ w.way;
    last = suc w.last;
    whole = omega (arith, w.whole);
    begins = refl;
    goes_on = λ k l. steps k l;
    ends = w.ends;
    few = omega (arith, w.few);
  }
    where
      steps : (k : ℕ) → k + 1 < length (x ∷ w.way)
          → LeadsTowards links u (get_or (x ∷ w.way) k 0) (get_or (x ∷ w.way) (k + 1) 0)
      steps zero l = subst (λ (z : ℕ). LeadsTowards links u x z) (sym w.begins) step
      steps (suc k) l =
          let shift : suc k + 1 ≡ suc (k + 1) = omega arith in
          subst (λ (j : ℕ). LeadsTowards links u (get_or w.way k 0) (get_or (x
          ∷ w.way) j 0)) (sym shift) (w.goes_on k (omega (arith, l)))

  way_or_long : (k x : ℕ) → HasPath links x u → Way x k ⊎ PathOf links k x
  way_or_long zero x path = inr ([], tt, refl)
  way_or_long (suc k) x path = ⊎_elim
      (λ e. inl (subst (λ (z : ℕ). Way z (suc k)) (sym e) (one_node (suc k))))
      (λ ne.
      let next = towards_next x ne path in
      elim (way_or_long k next.0 next.1.lowest.holds.1) [
        | inl w ↦ inl (one_before x next.0 k next.1 w)
        | inr p ↦ inr (next.0 ∷ p.0, (next.1.lowest.holds.0, p.1), ap suc p.2)
      ])
      (cases_eq x u)

  way_to : (x : ℕ) → HasPath links x u → Way x (suc n)
  way_to x path =
      elim (way_or_long (suc n) x path) [
        | inl w ↦ w
        | inr p ↦ absurd (omega (arith, short x p.0 p.1, p.2))
      ]

  -- the lowest cycle that a link from u to v closes
  cycle_by : (v : ℕ) → HasPath links v u
      → (walk : List ℕ) × IsLowestCycleBy links u v walk × IsCycle (added links u v) walk
      × (length walk ≤ suc (suc (suc n)))
  cycle_by v path =
      let w = way_to v path in
      let all = u ∷ w.way in
      let follows : (k : ℕ) → k + 1 < length all → Points (added links u v) (get_or all k 0) (get_or all (k + 1) 0) =
      steps w in (
        all,
        record {
          way = w.way;
          last = w.last;
          whole = w.whole;
          begins = w.begins;
          goes_on = w.goes_on;
          ends = w.ends;
          is = refl;
        },
        cycle_from_steps (added links u v) all (suc w.last) (omega (arith, w.whole)) (omega arith) w.ends follows,
        omega (arith, w.whole, w.few),
      )
    where
      steps : (w : Way v (suc n)) (k : ℕ) → k + 1 < length (u ∷ w.way)
          → Points (added links u v) (get_or (u ∷ w.way) k 0) (get_or (u ∷ w.way) (k + 1) 0)
      steps w zero l = subst (λ (z : ℕ). Points (added links u v) u z) (sym w.begins) (Contains-push links (u, v))
      steps w (suc k) l =
          let shift : suc k + 1 ≡ suc (k + 1) = omega arith in
          let step : Points links (get_or w.way k 0) (get_or w.way (k + 1) 0) =
          (w.goes_on k (omega (arith, l))).lowest.holds.0 in
          subst (λ (j : ℕ). Points (added links u v) (get_or w.way k 0) (get_or (u ∷ w.way) j 0)) (sym shift)
          (Contains-append_left links ((u, v) ∷ []) (get_or w.way k 0, get_or w.way (k + 1) 0) step)

-- a fault of an edit that names its evidence
abbrev pub NamedEditFault : Network → Edit → Type 0
NamedEditFault net edit = (fault : NetFault) × IsEditFault net edit fault × NamesOfEdit net edit fault

module _ (n : ℕ) (links : List (ℕ × ℕ)) (clear : IsFaultless n links) (u v : ℕ) where
  -- one of the two nodes of an added link that is out of range
  end_named : (x : ℕ) → IsOutOfRange n (added links u v) x → (y : ℕ) × IsOutOfRange n (added links u v) y
      × (((n ≤ u) × (y ≡ u)) ⊎ ((u < n) × (y ≡ v)))
  end_named x out = ⊎_elim
      (λ inside. (v, outside v (past inside x out) (inr refl), inr (inside, refl)))
      (λ past_u. (u, outside u past_u (inl refl), inl (past_u, refl)))
      (cases_lt u n)
    where
      outside : (y : ℕ) → n ≤ y → (u ≡ y) ⊎ (v ≡ y) → IsOutOfRange n (added links u v) y
      outside y l is = out_of_range_added n links u v y (inr (clear.some, l, (0, (u, v), omega arith, refl, is)))

      past : u < n → (x : ℕ) → IsOutOfRange n (added links u v) x → n ≤ v
      past inside x out =
          ⊎_elim (λ l. absurd (range_stands n (added links u v) x clear.some
          (in_range n links u v clear.is_net.in_range inside l).below out))
          (λ g. g) (cases_lt v n)

  self_named : (w : ℕ) → Contains (added links u v) (w, w) → w ≡ u
  self_named w h =
      elim (Contains-push_cases links (u, v) (w, w) h) [
        | inl old ↦ absurd (no_self_link links w clear.is_net.no_self old)
        | inr e ↦ sym (ap (λ (l : ℕ × ℕ). l.0) e)
      ]

  -- if two links join the same nodes, the added link is one of them
  twice_named : (a b : ℕ) → 2 ≤ count_by (is_between a b) (added links u v)
      → 2 ≤ count_by (is_between u v) (added links u v)
  twice_named a b many =
      let once = not_twice links a b clear.is_net.single in
      let more = count_added links u v a b in
      elim (cases_Bool (is_between a b (u, v))) [
        | inl passes ↦
            let same : count_by (is_between u v) (added links u v) ≡ count_by (is_between a b) (added links u v) =
            count_agrees (is_between u v) (is_between a b) (added links u v) (is_between_alike a b (u, v) passes) in
            omega (arith, same, many)
        | inr fails ↦
            let none : weigh (is_between a b (u, v)) ≡ 0 = rw fails refl in
            absurd (omega (arith, once, more, none, many))
      ]

  cycle_named : (walk : List ℕ) → IsCycle (added links u v) walk
      → (w : Vec ℕ Global) × IsCycle (added links u v) w.items × IsLowestCycleBy links u v w.items
  cycle_named walk cycle =
      let by = cycle_by n links clear.is_net.in_range clear.is_net.acyclic u v (back walk cycle) in
      let w = vec_with by.0 (omega (arith, by.3, clear.limits.nodes_few)) in
      (w.0, subst (IsCycle (added links u v)) (sym w.1) by.2, subst (IsLowestCycleBy links u v) (sym w.1) by.1)
    where
      back : (walk : List ℕ) → IsCycle (added links u v) walk → HasPath links v u
      back [] cycle = absurd cycle
      back (a ∷ vs) cycle = closed_back links u v a vs clear.is_net.acyclic cycle

  -- an added link that has a fault has one that names its evidence
  link_named : (fault : NetFault) → IsFirstFault n (added links u v) fault
      → (other : NetFault) × IsFirstFault n (added links u v) other
      × NamesOfLink (record { nodes = n; links = links }) u v other
  link_named TooMany h = (TooMany, h, tt)
  link_named (Range x) h = let e = end_named x h.1 in (Range e.0, (h.0, e.1), e.2)
  link_named (SelfLink w) h = (SelfLink w, h, self_named w h.2)
  link_named (Twice a b) h = (Twice u v, (h.0, h.1, h.2, twice_named a b h.3), (refl, refl))
  link_named (Cycle walk) h = let w = cycle_named walk.items h.4 in (Cycle w.0, (h.0, h.1, h.2, h.3, w.1), w.2)
  link_named NoLink h = absurd h
  link_named Memory h = absurd h

  join_named : (fault : NetFault) → IsJoinFault n links u v fault
      → (other : NetFault) × IsJoinFault n links u v other × NamesOfLink (record { nodes = n; links = links }) u v other
  join_named TooMany h = (TooMany, h, tt)
  join_named (Range x) h = let e = end_named x h.1 in (Range e.0, (h.0, e.1), e.2)
  join_named (SelfLink w) h = (SelfLink w, h, self_named w h.2)
  join_named (Twice a b) h = (Twice u v, (h.0, h.1, h.2, twice_named a b h.3), (refl, refl))
  join_named (Cycle _) h = absurd h
  join_named NoLink h = absurd h
  join_named Memory h = absurd h

-- an edit that is refused has a fault that names its evidence
pub edit_named : (net : Network) (edit : Edit) (fault : NetFault) → IsFaultless net.nodes net.links
    → IsEditFault net edit fault
    → NamedEditFault net edit
edit_named net (Cut u v) fault clear h = (fault, h, tt)
edit_named net (Add u v) fault clear h = link_named net.nodes net.links clear u v fault h
edit_named net (Join u v) fault clear h = join_named net.nodes net.links clear u v fault h

network_faultless : (n : ℕ) (listed : List (ℕ × ℕ)) (net : Network) → IsNetworkOf n listed net
    → IsFaultless net.nodes net.links
network_faultless n listed net made =
    let same = in_order_permutes listed in
    let sorted = permuted_net n listed (in_order listed) same made.faultless.is_net in
    subst (λ (m : Network). IsFaultless m.nodes m.links) (sym made.is)
    (faultless_sorted n listed (in_order listed) same sorted.acyclic made.faultless)

one_faultless : (net : Network) (edit : Edit) (after : Network) → IsMade net edit after
    → IsFaultless after.nodes after.links
one_faultless net (Cut u v) after made = network_faultless net.nodes (without u v net.links) after made.1
one_faultless net (Add u v) after made = network_faultless net.nodes (added net.links u v) after made
one_faultless net (Join u v) after (inl made) = network_faultless net.nodes (added net.links u v) after made
one_faultless net (Join u v) after (inr made) = network_faultless net.nodes (added net.links v u) after made.1

made_faultless : (net : Network) (edits : List Edit) (after : Network) → IsFaultless net.nodes net.links
    → AreMade net edits after
    → IsFaultless after.nodes after.links
made_faultless net [] after clear made = subst (λ (m : Network). IsFaultless m.nodes m.links) (sym made) clear
made_faultless net (edit ∷ rest) after clear made =
    made_faultless made.0 rest after (one_faultless net edit made.0 made.1.0) made.1.1

-- a batch that is refused has a fault that names its evidence
pub batch_named : (net : Network) (edits : List Edit) (refused : EditFault) → IsFaultless net.nodes net.links
    → IsBatchFault net edits refused
    → (other : EditFault) × IsBatchFault net edits other × NamesInBatch net edits other
batch_named net edits refused clear (inl many) =
    (refused, inl many, λ before made d. names before (get_or edits refused.at d) refused.fault many.2)
  where
    names : (before : Network) (edit : Edit) (fault : NetFault) → fault ≡ TooMany → NamesOfEdit before edit fault
    names before edit fault is = subst (λ (f : NetFault). NamesOfEdit before edit f) (sym is) (of_many before edit)
      where
        of_many : (before : Network) (edit : Edit) → NamesOfEdit before edit TooMany
        of_many before (Cut u v) = tt
        of_many before (Add u v) = tt
        of_many before (Join u v) = tt
batch_named net edits refused clear (inr few) =
    let r = few.1 in
    let some = Cut 0 0 in
    let edit = get_or edits refused.at some in
    let named =
    edit_named r.before edit refused.fault (made_faultless net (take refused.at edits) r.before clear r.made)
    (r.refused some) in
    let same : (d : Edit) → get_or edits refused.at d ≡ edit = λ d. get_or_default edits refused.at d some r.inside in (
      record { at = refused.at; fault = named.0 },
      inr (
        few.0,
        record {
          inside = r.inside;
          before = r.before;
          made = r.made;
          refused = λ d. subst (λ (e : Edit). IsEditFault r.before e named.0) (sym (same d)) named.1;
        },
      ),
      λ before made d.
          subst (λ (e : Edit). NamesOfEdit before e named.0) (sym (same d))
          (subst (λ (b : Network). NamesOfEdit b edit named.0)
          (all_made_one net (take refused.at edits) r.before before r.made made) named.2),
    )
