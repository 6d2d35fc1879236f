-- The steps with which the rows of a network turn in place.
use Rattle.std.proofs.Common.{All, Bool, Contains, List, ap, arith, cond, eq-eqb, eqb, false, get_or, inl, inr, length}
use Rattle.std.proofs.Common.{ltb, map, ne_eqb, refl, set}
use Rattle.std.proofs.Common.{suc, sym, true, zero, ℕ, ◌&&◌, ◌+◌, ◌<◌, ◌||◌, ◌∙◌, ◌≡◌, ◌≢◌, ◌≤◌}
use Rattle.std.proofs.lemmas.Bool.{cases_Bool, cases_eq, cases_lt, cond-false, cond-true}
use Rattle.std.proofs.lemmas.Bool.Decides.{nat_tests}
use Rattle.std.proofs.lemmas.List.{get_or-map, get_or_default, length-map, map-id}
use Rattle.std.proofs.lemmas.List.Elements.{Contains-get_or}
use Rattle.std.proofs.lemmas.List.Kept.{AllPairs-from_increasing}
use Rattle.std.proofs.lemmas.Simd.{map-map}
use Rattle.std.specs.List.Sorted.{IsStrictlyIncreasing}
use Rattle.fr_graph.proofs.KeptRows.{length-rows, rows_with_row}
use Rattle.fr_graph.proofs.Neighbours.{Rises, in_of_row, out_of_row, row_holds, row_of_in, row_of_out, row_rises}
use Rattle.fr_graph.proofs.TurnedRows.{row_turned}
use Rattle.fr_graph.specs.Counts.{IsKept, links_at}
use Rattle.fr_graph.specs.Halves.{IsPlaceIn}
use Rattle.fr_graph.specs.KeptRows.{AreRows}
use Rattle.fr_graph.specs.Links.{IsNet}
use Rattle.fr_graph.specs.Network.{Network}
use Rattle.fr_graph.specs.RowLists.{opposite, turned_entry}
use Rattle.fr_graph.specs.Rows.{row}
use Rattle.fr_graph.specs.Tables.{Table, row_of, with_row}
use Rattle.fr_graph.specs.TurnedRows.{ArePartTurned, all_done, entry_done, is_done, none_done, reversed_at, seen_too}
use Rattle.fr_graph.specs.declared.first.First.{First}
use Rattle.fr_graph.specs.declared.first.First.TheVariants.{Inward, Outward}
use Rattle.fr_graph.proofs.Lists.{map_alike, set_is_map}

-- the rows in between
abbrev pub rows_done : Network → List ℕ → (ℕ → ℕ → Bool) → ℕ → List (ℕ × First)
rows_done net counts done y = map (entry_done done counts y) (row net.nodes net.links y)

abbrev IsAlike : Network → List ℕ → (ℕ → ℕ → Bool) → (ℕ → ℕ → Bool) → ℕ → Type 0
IsAlike net counts done later y =
    (e : ℕ × First) → Contains (row net.nodes net.links y) e → entry_done done counts y e ≡ entry_done later counts y e

-- no entry is written if it is the same done and not done
pub none_written : (net : Network) (counts : List ℕ) (done later : ℕ → ℕ → Bool) (table : Table)
    → ArePartTurned net counts done table → ((y : ℕ) → y < net.nodes → IsAlike net counts done later y)
    → ArePartTurned net counts later table
none_written net counts done later table at same = record {
  is_net = at.is_net;
  counted = at.counted;
  one_each = at.one_each;
  shown =
      λ y l. at.shown y l
      ∙ map_alike (entry_done done counts y) (entry_done later counts y) (row net.nodes net.links y) (same y l);
}

pub one_written : (net : Network) (counts : List ℕ) (done later : ℕ → ℕ → Bool) (k : ℕ) (table : Table)
    → ArePartTurned net counts done table → k < net.nodes
    → ((y : ℕ) → y < net.nodes → y ≢ k → IsAlike net counts done later y)
    → ArePartTurned net counts later (with_row table k (rows_done net counts later k))
one_written net counts done later k table at lt same = record {
  is_net = at.is_net;
  counted = at.counted;
  one_each = length-rows table k (rows_done net counts later k) ∙ at.one_each;
  shown = rows_with_row net.nodes k (rows_done net counts later) table (omega (arith, lt, at.one_each))
      (λ y l ne. at.shown y l
      ∙ map_alike (entry_done done counts y) (entry_done later counts y) (row net.nodes net.links y) (same y l ne));
}

-- tests that agree on an entry, and entries that do not change
tests_agree : (counts : List ℕ) (done later : ℕ → ℕ → Bool) (y : ℕ) (e : ℕ × First) → done y e.0 ≡ later y e.0
    → entry_done done counts y e ≡ entry_done later counts y e
tests_agree counts done later y e same = ap (λ (b : Bool). cond b (turned_entry counts y e) e) same

entry_stays : (counts : List ℕ) (done : ℕ → ℕ → Bool) (y : ℕ) (e : ℕ × First) → get_or counts e.0 0 ≡ get_or counts y 0
    → entry_done done counts y e ≡ e
entry_stays counts done y e same =
    let stays : turned_entry counts y e ≡ e = cond-true _ _ _ (eq-eqb _ _ same) in
    elim (cases_Bool (done y e.0)) [ inl t ↦ cond-true _ _ _ t ∙ stays | inr f ↦ cond-false _ _ _ f ]

pub entry_done_node : (counts : List ℕ) (done : ℕ → ℕ → Bool) (y : ℕ) (e : ℕ × First)
    → (entry_done done counts y e).0 ≡ e.0
entry_done_node counts done y e =
    elim (cases_Bool (done y e.0)) [
      | inl t ↦ elim (cases_Bool (eqb (get_or counts e.0 0) (get_or counts y 0))) [
        | inl same ↦ rw (t, same) refl
        | inr other ↦ rw (t, other) refl
      ]
      | inr f ↦ rw f refl
    ]

-- the nodes before this place in a list
abbrev pub stands_before : List ℕ → ℕ → ℕ → Bool
stands_before nodes zero = λ y. false
stands_before nodes (suc i) = seen_too (get_or nodes i 0) (stands_before nodes i)

pub stands_not : (nodes : List ℕ) (i y : ℕ) → ((j : ℕ) → j < i → ¬ (get_or nodes j 0 ≡ y))
    → stands_before nodes i y ≡ false
stands_not nodes zero y apart = refl
stands_not nodes (suc i) y apart =
    rw (ne_eqb y (get_or nodes i 0) (λ q. apart i (omega arith) (sym q))) (stands_not nodes i y (λ j l. apart j (omega (
      arith,
      l,
    ))))

pub stands_somewhere : (nodes : List ℕ) (i j y : ℕ) → j < i → get_or nodes j 0 ≡ y → stands_before nodes i y ≡ true
stands_somewhere nodes zero j y l here = absurd (omega (arith, l))
stands_somewhere nodes (suc i) j y l here = elim (cases_eq y (get_or nodes i 0)) [
  | inl same ↦ rw (eq-eqb y (get_or nodes i 0) same) refl
  | inr apart ↦
      let other : j ≢ i = λ q. apart (sym here ∙ ap (λ (k : ℕ). get_or nodes k 0) q) in
      rw (ne_eqb y (get_or nodes i 0) apart) (stands_somewhere nodes i j y (omega (arith, l, other)) here)
]

-- before the first node of the list, and after the last
pub none_seen : (net : Network) (counts : List ℕ) (table : Table) → ArePartTurned net counts none_done table
    → ArePartTurned net counts (is_done counts (λ y. false)) table
none_seen net counts table at =
    none_written net counts none_done (is_done counts (λ y. false)) table at
    (λ y l e h. tests_agree counts none_done (is_done counts (λ y. false)) y e
    (elim (cases_Bool (eqb (get_or counts y 0) 0)) [ inl t ↦ rw t refl | inr f ↦ rw f refl ]))

-- nodes that have not turned have nothing to handle
pub all_seen : (net : Network) (counts : List ℕ) (seen : ℕ → Bool) (table : Table)
    → ((y : ℕ) → 0 < get_or counts y 0 → seen y ≡ true) → ArePartTurned net counts (is_done counts seen) table
    → ArePartTurned net counts all_done table
all_seen net counts seen table each at =
    none_written net counts (is_done counts seen) all_done table at
    (λ y l e h.
    let agree = tests_agree counts (is_done counts seen) all_done y e in
    elim (cases_eq (get_or counts y 0) 0) [
      | inl zero_y ↦ elim (cases_eq (get_or counts e.0 0) 0) [
        | inl zero_w ↦
            let same : get_or counts e.0 0 ≡ get_or counts y 0 = zero_w ∙ sym zero_y in
            entry_stays counts (is_done counts seen) y e same ∙ sym (entry_stays counts all_done y e same)
        | inr some ↦ agree (cond-true _ _ _ (eq-eqb _ _ zero_y) ∙ each e.0 (omega (arith, some)))
      ]
      | inr some ↦ agree (cond-false _ _ _ (ne_eqb _ _ some) ∙ each y (omega (arith, some)))
    ])

-- while x handles its entries in the rows of others: those of neighbours below the bound are done
abbrev pub is_halfway : List ℕ → (ℕ → Bool) → ℕ → ℕ → ℕ → ℕ → Bool
is_halfway counts seen x bound y w =
    cond (eqb (get_or counts y 0) 0) ((eqb w x && ltb y bound) || seen w) (seen_too x seen y)

-- the row of x was turned
pub own_row_turned : (net : Network) (counts : List ℕ) (seen : ℕ → Bool) (x : ℕ) (table : Table) → seen x ≡ false
    → 0 < get_or counts x 0 → x < net.nodes → ArePartTurned net counts (is_done counts seen) table
    → ArePartTurned net counts (is_halfway counts seen x 0)
    (with_row table x (map (turned_entry counts x) (row_of table x)))
own_row_turned net counts seen x table unseen turned lt at =
    let entries = row net.nodes net.links x in
    let here : map (turned_entry counts x) (row_of table x) ≡ rows_done net counts (is_halfway counts seen x 0) x =
    ap (map (turned_entry counts x)) (at.shown x lt)
    ∙ map-map (turned_entry counts x) (entry_done (is_done counts seen) counts x) entries
    ∙ map_alike (λ e. turned_entry counts x (entry_done (is_done counts seen) counts x e))
    (entry_done (is_halfway counts seen x 0) counts x) entries
    (λ e h.
    let before : is_done counts seen x e.0 ≡ false = grind (arith, nat_tests) in
    let after : is_halfway counts seen x 0 x e.0 ≡ true = grind (arith, nat_tests) in
    rw (before, after) refl) in
    rw here
    (one_written net counts (is_done counts seen) (is_halfway counts seen x 0) x table at lt
    (λ y l ne e h. tests_agree counts (is_done counts seen) (is_halfway counts seen x 0) y e
    (elim (cases_eq (get_or counts y 0) 0)
    [ inl none ↦ grind (arith, nat_tests) | inr some ↦ grind (arith, nat_tests) ])))

-- a node is a neighbour of its neighbours
pub neighbour_back : (net : Network) (x : ℕ) (e : ℕ × First) → IsNet net.nodes net.links
    → Contains (row net.nodes net.links x) e → Contains (row net.nodes net.links e.0) (x, opposite e.1)
neighbour_back net x (w, Outward) is_net h =
    row_of_in net.nodes net.links w x is_net (out_of_row net.nodes net.links x w h)
neighbour_back net x (w, Inward) is_net h =
    row_of_out net.nodes net.links w x is_net (in_of_row net.nodes net.links x w h)

-- a neighbour of x is below the bound exactly if its place is
neighbour_from : (net : Network) (x y : ℕ) (e : ℕ × First) (bound j : ℕ) → IsNet net.nodes net.links
    → IsPlaceIn (row net.nodes net.links x) bound j → Contains (row net.nodes net.links y) e → e.0 ≡ x → (k : ℕ)
    × (k < length (row net.nodes net.links x)) × ((get_or (row net.nodes net.links x) k (y, opposite e.1)).0 ≡ y)
neighbour_from net x y e bound j is_net at h is =
    let back : Contains (row net.nodes net.links x) (y, opposite e.1) = rw is at (neighbour_back net y e is_net h) in
    (back.0, back.1, ap (λ (p : ℕ × First). p.0) back.2)

bounds_alike : (net : Network) (counts : List ℕ) (seen : ℕ → Bool) (x bound j w : ℕ) → IsNet net.nodes net.links
    → IsPlaceIn (row net.nodes net.links x) bound j → j < length (row net.nodes net.links x)
    → ((d : ℕ × First) → (get_or (row net.nodes net.links x) j d).0 ≡ w) → (y : ℕ) → (y ≡ w → get_or counts y 0 ≢ 0)
    → IsAlike net counts (is_halfway counts seen x bound) (is_halfway counts seen x (w + 1)) y
bounds_alike net counts seen x bound j w is_net at inside here y other e h =
    let entries = row net.nodes net.links x in
    let agree = tests_agree counts (is_halfway counts seen x bound) (is_halfway counts seen x (w + 1)) y e in
    elim (cases_eq (get_or counts y 0) 0) [
      | inl none ↦ elim (cases_eq e.0 x) [
        | inl it ↦
            let apart : y ≢ w = λ q. other q none in
            let from = neighbour_from net x y e bound j is_net at h it in
            let d : ℕ × First = (y, opposite e.1) in
            let low : bound ≤ w = omega (arith, at.stops j d (omega arith) inside, here d) in
            elim (cases_lt from.0 j) [
              | inl less ↦
                  let below : y < bound = omega (arith, at.before from.0 d less, from.2) in
                  agree (grind (arith, nat_tests))
              | inr more ↦ elim (cases_eq from.0 j) [
                | inl same ↦ let same_node : (get_or entries from.0 d).0 ≡ w =
                    rw same (here d) in absurd (apart (sym from.2 ∙ same_node))
                | inr ne ↦
                    let above : w < y =
                    omega (
                      arith,
                      row_rises net.nodes net.links x j from.0 d (omega (arith, more, ne)) from.1,
                      here d,
                      from.2,
                    ) in
                    agree (grind (arith, nat_tests))
              ]
            ]
        | inr ne ↦ agree (grind (arith, nat_tests))
      ]
      | inr some ↦ agree (grind (arith, nat_tests))
    ]

-- the next neighbour has turned, and handles its own row
pub neighbour_passed : (net : Network) (counts : List ℕ) (seen : ℕ → Bool) (x bound j w : ℕ) (table : Table)
    → IsPlaceIn (row net.nodes net.links x) bound j → j < length (row net.nodes net.links x)
    → ((d : ℕ × First) → (get_or (row net.nodes net.links x) j d).0 ≡ w) → get_or counts w 0 ≢ 0
    → ArePartTurned net counts (is_halfway counts seen x bound) table
    → ArePartTurned net counts (is_halfway counts seen x (w + 1)) table
neighbour_passed net counts seen x bound j w table at inside here turned now =
    none_written net counts (is_halfway counts seen x bound) (is_halfway counts seen x (w + 1)) table now
    (λ y l. bounds_alike net counts seen x bound j w now.is_net at inside here y (λ q. rw q turned))

-- the next neighbour has not turned, and its entry of x was reversed
pub neighbour_turned : (net : Network) (counts : List ℕ) (seen : ℕ → Bool) (x bound j w : ℕ) (table : Table)
    → seen x ≡ false → 0 < get_or counts x 0 → IsPlaceIn (row net.nodes net.links x) bound j
    → j < length (row net.nodes net.links x) → ((d : ℕ × First) → (get_or (row net.nodes net.links x) j d).0 ≡ w)
    → get_or counts w 0 ≡ 0 → w < net.nodes
    → ArePartTurned net counts (is_halfway counts seen x bound) table
    → ArePartTurned net counts (is_halfway counts seen x (w
    + 1)) (with_row table w (map (reversed_at x) (row_of table w)))
neighbour_turned net counts seen x bound j w table unseen turned at inside here none below part =
    let entries = row net.nodes net.links w in
    let d : ℕ × First = (0, Outward) in
    let low : bound ≤ w = omega (arith, at.stops j d (omega arith) inside, here d) in
    let done = is_halfway counts seen x bound in
    let later = is_halfway counts seen x (w + 1) in
    let written : map (reversed_at x) (row_of table w) ≡ rows_done net counts later w =
    ap (map (reversed_at x)) (part.shown w below) ∙ map-map (reversed_at x) (entry_done done counts w) entries
    ∙ map_alike (λ e. reversed_at x (entry_done done counts w e)) (entry_done later counts w) entries
    (λ e h. elim (cases_eq e.0 x) [
      | inl it ↦
          let before : done w e.0 ≡ false = grind (arith, nat_tests) in
          let after : later w e.0 ≡ true = grind (arith, nat_tests) in
          let apart : ¬ (get_or counts e.0 0 ≡ get_or counts w 0) = rw (it, none) (λ q. omega (arith, q, turned)) in
          ap (reversed_at x) (cond-false _ _ _ before) ∙ cond-true _ _ _ (eq-eqb _ _ it)
          ∙ sym (cond-true _ _ _ after ∙ cond-false _ _ _ (ne_eqb _ _ apart))
      | inr other ↦
          let kept : (entry_done done counts w e).0 ≢ x = rw (entry_done_node counts done w e) other in
          cond-false _ _ _ (ne_eqb _ _ kept) ∙ tests_agree counts done later w e (grind (arith, nat_tests))
    ]) in
    rw written
    (one_written net counts done later w table part below
    (λ y l ne. bounds_alike net counts seen x bound j w part.is_net at inside here y (λ q. absurd (ne q))))

-- the place after a neighbour's place
pub place_after : (net : Network) (x bound j w : ℕ) → IsPlaceIn (row net.nodes net.links x) bound j
    → j < length (row net.nodes net.links x) → ((d : ℕ × First) → (get_or (row net.nodes net.links x) j d).0 ≡ w)
    → IsPlaceIn (row net.nodes net.links x) (w + 1) (j + 1)
place_after net x bound j w at inside here = record {
  inside = omega arith;
  before = λ k d l. elim (cases_lt k j) [
    | inl less ↦ omega (arith, at.before k d less, at.stops j d (omega arith) inside, here d)
    | inr ge ↦ let e : k ≡ j = omega arith in rw e (omega (arith, here d))
  ];
  stops = λ k d from l. omega (arith, row_rises net.nodes net.links x j k d (omega arith) l, here d);
}

-- x has handled all its entries
pub node_done : (net : Network) (counts : List ℕ) (seen : ℕ → Bool) (x bound : ℕ) (table : Table)
    → IsPlaceIn (row net.nodes net.links x) bound (length (row net.nodes net.links x))
    → ArePartTurned net counts (is_halfway counts seen x bound) table
    → ArePartTurned net counts (is_done counts (seen_too x seen)) table
node_done net counts seen x bound table at part =
    none_written net counts (is_halfway counts seen x bound) (is_done counts (seen_too x seen)) table part
    (λ y l e h.
    let agree = tests_agree counts (is_halfway counts seen x bound) (is_done counts (seen_too x seen)) y e in
    elim (cases_eq (get_or counts y 0) 0) [
      | inl none ↦ elim (cases_eq e.0 x) [
        | inl it ↦
            let from = neighbour_from net x y e bound (length (row net.nodes net.links x)) part.is_net at h it in
            let below : y < bound = omega (arith, at.before from.0 (y, opposite e.1) from.1, from.2) in
            agree (grind (arith, nat_tests))
        | inr ne ↦ agree (grind (arith, nat_tests))
      ]
      | inr some ↦ agree (grind (arith, nat_tests))
    ])

-- before the first node, and after the last
pub rows_begin : (net : Network) (counts : List ℕ) (table : Table) → IsNet net.nodes net.links
    → length counts ≡ net.nodes
    → AreRows net.nodes net.links table → ArePartTurned net counts none_done table
rows_begin net counts table is_net counted rows = record {
  is_net = is_net;
  counted = counted;
  one_each = rows.one_each;
  shown = λ y l. rows.shown y l ∙ sym (map-id (row net.nodes net.links y));
}

pub rows_end : (net : Network) (counts : List ℕ) (table : Table) → All (IsKept counts) net.links
    → ArePartTurned net counts all_done table → AreRows net.nodes (links_at net.links counts) table
rows_end net counts table kept part = record {
  one_each = part.one_each;
  shown = λ y l. part.shown y l ∙ sym (row_turned net.nodes net.links counts y kept part.is_net);
}

-- the neighbours in a row that is turning, and the entry of one of them reversed
pub nodes_done : (net : Network) (counts : List ℕ) (done : ℕ → ℕ → Bool) (y : ℕ)
    → map (λ (e : ℕ × First). e.0) (rows_done net counts done y)
    ≡ map (λ (e : ℕ × First). e.0) (row net.nodes net.links y)
nodes_done net counts done y =
    let node : ℕ × First → ℕ = λ e. e.0 in
    map-map node (entry_done done counts y) (row net.nodes net.links y)
    ∙ map_alike (λ e. node (entry_done done counts y e)) node (row net.nodes net.links y)
    (λ e h. entry_done_node counts done y e)

pub rises_from : (es : List (ℕ × First)) → IsStrictlyIncreasing (map (λ (e : ℕ × First). e.0) es) → Rises es
rises_from es rising i j d lt l =
    let node : ℕ × First → ℕ = λ e. e.0 in
    let long : length (map node es) ≡ length es = length-map es node in
    let up = AllPairs-from_increasing (map node es) rising i j 0 lt (omega (arith, long, l)) in
    rw (get_or-map node es i d 0 (omega (arith, lt, l)), get_or-map node es j d 0 l) at up

entry_is : (e : ℕ × First) (w : ℕ) → e.0 ≡ w → e ≡ (w, e.1)
entry_is (v, f) w e = cc

-- a neighbour is in the row with a direction
pub neighbour_in : (es : List (ℕ × First)) (w : ℕ) → Contains (map (λ (e : ℕ × First). e.0) es) w
    → (f : First) × Contains es (w, f)
neighbour_in es w h =
    let node : ℕ × First → ℕ = λ e. e.0 in
    let d : ℕ × First = (w, Outward) in
    let inside : h.0 < length es = omega (arith, h.1, length-map es node) in
    let is : (get_or es h.0 d).0 ≡ w = sym (get_or-map node es h.0 d w inside) ∙ h.2 in
    ((get_or es h.0 d).1, rw (entry_is (get_or es h.0 d) w is) at (Contains-get_or es h.0 d inside))

pub neighbour_listed : (es : List (ℕ × First)) (w : ℕ) (f : First) → Contains es (w, f)
    → Contains (map (λ (e : ℕ × First). e.0) es) w
neighbour_listed es w f h =
    let node : ℕ × First → ℕ = λ e. e.0 in
    (h.0, omega (arith, h.1, length-map es node), get_or-map node es h.0 (w, f) w h.1 ∙ ap node h.2)

pub entry_reversed : (es : List (ℕ × First)) (w k : ℕ) (f : First) (d : ℕ × First) (y : ℕ × First) → Rises es
    → k < length es → get_or es k d ≡ (w, f) → y ≡ (w, opposite f) → set es k y ≡ map (reversed_at w) es
entry_reversed es w k f d y rises inside here is =
    set_is_map (reversed_at w) es k y d inside
    (is ∙ sym (cond-true _ _ _ (eq-eqb w w refl)) ∙ ap (reversed_at w) (sym here))
    (λ i e l ne.
    let at : (get_or es k e).0 ≡ w = ap (λ (p : ℕ × First). p.0) (get_or_default es k e d inside ∙ here) in
    let apart : (get_or es i e).0 ≢ w = λ q. elim (cases_lt i k) [
      | inl lt ↦ omega (arith, rises i k e lt inside, at, q)
      | inr ge ↦ omega (arith, rises k i e (omega (arith, ge, ne)) l, at, q)
    ] in
    cond-false _ _ _ (ne_eqb _ _ apart))

-- the state while x handles its entries in the rows of others, up to this place in its row
pub record IsHalfTurned (net : Network) (counts : List ℕ) (seen : ℕ → Bool) (x place : ℕ) (table : Table) : Type 0 where
  pub bound : ℕ
  pub at : IsPlaceIn (row net.nodes net.links x) bound place
  pub rows : ArePartTurned net counts (is_halfway counts seen x bound) table

-- the neighbour that comes next
pub record IsNext (net : Network) (counts : List ℕ) (seen : ℕ
    → Bool) (x place : ℕ) (table : Table) (w : ℕ) : Type 0 where
  pub bound : ℕ
  pub at : IsPlaceIn (row net.nodes net.links x) bound place
  pub inside : place < length (row net.nodes net.links x)
  pub here : (d : ℕ × First) → (get_or (row net.nodes net.links x) place d).0 ≡ w
  pub below : w < net.nodes
  pub rows : ArePartTurned net counts (is_halfway counts seen x bound) table

-- a row keeps its length while it turns
pub length_shown : (net : Network) (counts : List ℕ) (done : ℕ → ℕ → Bool) (y : ℕ) (table : Table)
    → ArePartTurned net counts done table → y < net.nodes → length (row_of table y) ≡ length (row net.nodes net.links y)
length_shown net counts done y table part lt =
    ap length (part.shown y lt) ∙ length-map (row net.nodes net.links y) (entry_done done counts y)

pub next_neighbour : (net : Network) (counts : List ℕ) (seen : ℕ → Bool) (x place : ℕ) (table : Table)
    → IsHalfTurned net counts seen x place table → x < net.nodes → place < length (row net.nodes net.links x)
    → IsNext net counts seen x place table (get_or (row_of table x) place (0, Outward)).0
next_neighbour net counts seen x place table half lt inside =
    let d : ℕ × First = (0, Outward) in
    let node : ℕ × First → ℕ = λ e. e.0 in
    let done = is_halfway counts seen x half.bound in
    let row_x = row net.nodes net.links x in
    let read : (get_or (row_of table x) place d).0 ≡ (get_or row_x place d).0 =
    ap (λ (es : List (ℕ × First)). node (get_or es place d)) (half.rows.shown x lt)
    ∙ ap node (get_or-map (entry_done done counts x) row_x place d d inside)
    ∙ entry_done_node counts done x (get_or row_x place d) in
    record {
      bound = half.bound;
      at = half.at;
      inside = inside;
      here = λ e. ap node (get_or_default row_x place e d inside) ∙ sym read;
      below =
          omega (
            arith,
            (row_holds net.nodes net.links x (get_or row_x place d) (Contains-get_or row_x place d inside)).0,
            read,
          );
      rows = half.rows;
    }

pub half_more : (net : Network) (counts : List ℕ) (seen : ℕ → Bool) (x place : ℕ) (old new : Table) (w : ℕ)
    → IsNext net counts seen x place old w → ArePartTurned net counts (is_halfway counts seen x (w + 1)) new
    → IsHalfTurned net counts seen x (place + 1) new
half_more net counts seen x place old new w next rows = record {
  bound = w + 1;
  at = place_after net x next.bound place w next.at next.inside next.here;
  rows = rows;
}

pub half_begins : (net : Network) (counts : List ℕ) (seen : ℕ → Bool) (x : ℕ) (table : Table)
    → ArePartTurned net counts (is_halfway counts seen x 0) table → IsHalfTurned net counts seen x 0 table
half_begins net counts seen x table rows = record {
  bound = 0;
  at = record { inside = omega arith; before = λ k d l. absurd (omega arith); stops = λ k d l m. omega arith };
  rows = rows;
}

pub half_ends : (net : Network) (counts : List ℕ) (seen : ℕ → Bool) (x place : ℕ) (table : Table)
    → IsHalfTurned net counts seen x place table → length (row net.nodes net.links x) ≤ place
    → ArePartTurned net counts (is_done counts (seen_too x seen)) table
half_ends net counts seen x place table half past =
    let all : place ≡ length (row net.nodes net.links x) = omega (arith, half.at.inside, past) in
    node_done net counts seen x half.bound table (rw all at half.at) half.rows

-- the neighbours in a row that is turning are nodes
pub shown_below : (net : Network) (counts : List ℕ) (done : ℕ → ℕ → Bool) (y : ℕ)
    → All (λ (e : ℕ × First). e.0 < net.nodes) (rows_done net counts done y)
shown_below net counts done y k d l =
    let entries = row net.nodes net.links y in
    let inside : k < length entries = omega (arith, l, length-map entries (entry_done done counts y)) in
    let e = get_or entries k d in
    let at : get_or (rows_done net counts done y) k d ≡ entry_done done counts y e =
    get_or-map (entry_done done counts y) entries k d d inside in
    rw (at, entry_done_node counts done y e) (row_holds net.nodes net.links y e (Contains-get_or entries k d inside)).0
