-- A node that is not listed has kept its ways.
use Rattle.std.proofs.Common.{All, Contains, IsPermutation, List, [], arith, eq-eqb, eqb, get_or, inl, inr, length}
use Rattle.std.proofs.Common.{refl, slice_index}
use Rattle.std.proofs.Common.{sym, ℕ, ⊎_elim, ◌+◌, ◌<◌, ◌∙◌, ◌≡◌, ◌≢◌, ◌⊎◌, ◌↔◌}
use Rattle.std.specs.Cmp.{nat_eq_equiv}
use Rattle.std.specs.List.Sorted.{IsNonDecreasing}
use Rattle.std.proofs.lemmas.Bool.{cases_eq, cases_lt, false≢true}
use Rattle.std.proofs.lemmas.List.Elements.{All-contains, Contains-get_or}
use Rattle.std.proofs.lemmas.List.Sorted.{Contains-permutation, IsPermutation-sym}
use Rattle.std.proofs.lemmas.Map.Keys.{IsDistinct-IsPermutation, apart_from_distinct}
use Rattle.fr_graph.proofs.Linking.{joined_below, link_below}
use Rattle.fr_graph.proofs.Members.{Contains-none}
use Rattle.fr_graph.specs.Links.{IsNet, Joins, Points}
use Rattle.fr_graph.specs.Network.{Network}
use Rattle.fr_graph.specs.Rows.{row}
use Rattle.fr_graph.specs.declared.edit.Edit.{Edit}
use Rattle.fr_graph.specs.declared.edit.Edit.TheVariants.{Add, Cut, Join}
use Rattle.fr_nearest.specs.Affected.{AreAffected, HasEnds, HasOne, IsBehindChange, IsEnd, IsNextTo, IsTouchedBy}
use Rattle.fr_nearest.specs.Affected.{KeepsWays}
use Rattle.fr_nearest.specs.Distances.{AreChanged, AreDistances, no_distance}
use Rattle.fr_nearest.specs.Marks.{ComesFirst, HasMarked, IsAlikeAt, IsBehind, IsOrderedAlike, IsReordered}
use Rattle.fr_nearest.specs.Marks.{StaysInOrder}
use Rattle.fr_nearest.specs.LinkChanges.{Adds, AreKept, AreNew, Cuts, HasEndsBelow, HasTurned, IsAdded, IsCut}
use Rattle.fr_nearest.specs.Update.{HoldTo}
use Rattle.fr_nearest.specs.Ways.{AreWays, IsNearer, IsWay}
use Rattle.fr_nearest.specs.declared.affected.Marks.{Marks}
use Rattle.fr_nearest.specs.declared.update.LinkChanges.{LinkChanges}
use Rattle.fr_nearest.proofs.Entries.{hold_out}
use Rattle.fr_nearest.proofs.Ranking.{inside_net, nearer_of, some_of, way_of}
use Rattle.fr_nearest.proofs.Walking.{one_distance}

-- two nodes are in the order of their numbers in the table
order_of : {n : ℕ} {links : List (ℕ × ℕ)} {d : ℕ} {table : List ℕ} (w u : ℕ) → AreDistances n links d table → w < n
    → u < n
    → slice_index table w ≢ no_distance → slice_index table u ≢ no_distance → IsNearer links d w u
    → ComesFirst table w u
order_of {n} {links} {d} {table} w u are low high some other h =
    let near = one_distance links d w h.near (slice_index table w) h.this ((are.each w low).some some) in
    let far = one_distance links d u h.far (slice_index table u) h.other ((are.each u high).some other) in
    ⊎_elim (λ less. inl (omega (arith, near, far, less))) (λ e. inr (omega (arith, near, far, e.0), e.1)) h.before

-- One table after another: the same nodes have a distance, and are in the same order.
module _ {n : ℕ} {old now : List (ℕ
    × ℕ)} {d e x : ℕ} {before table : List ℕ} (were : AreDistances n old d before) (are : AreDistances n now e table)
    (below : (w : ℕ) → Points now x w → w < n) (from : (w : ℕ) → Points old x w → Points now x w) (to : (w : ℕ)
    → Points now x w → Points old x w)
    (some : (w : ℕ) → Points now x w → slice_index before w ≢ no_distance → slice_index table w ≢ no_distance)
    (back : (w : ℕ) → Points now x w → slice_index table w ≢ no_distance → slice_index before w ≢ no_distance)
    (order : (w u : ℕ) → Points now x w → Points now x u → ComesFirst before w u → ComesFirst table w u) where
  was_below : (w : ℕ) → Points old x w → w < n
  was_below w link = below w (from w link)

  goes_on : (w : ℕ) → IsWay old d x w → IsWay now e x w
  goes_on w way = way_of below are w (from w way.link) (some w (from w way.link) (some_of was_below were w way))

  was_way : (w : ℕ) → IsWay now e x w → IsWay old d x w
  was_way w way = way_of was_below were w (to w way.link) (back w way.link (some_of below are w way))

  pub ways_kept : (list : List ℕ) → AreWays old d x list → AreWays now e x list
  ways_kept list h = record {
    just = λ w. (λ found. goes_on w ((h.just w).0 found), λ way. (h.just w).1 (was_way w way));
    order = λ i j lt inside.
        let w = slice_index list i in
        let u = slice_index list j in
        let way = (h.just w).0 (Contains-get_or list i 0 (omega (arith, lt, inside))) in
        let other = (h.just u).0 (Contains-get_or list j 0 inside) in
        let first =
        order_of w u were (was_below w way.link) (was_below u other.link) (some_of was_below were w way)
        (some_of was_below were u other)
        (h.order i j lt inside) in
        nearer_of below are w u (goes_on w way) (goes_on u other)
        (order w u (from w way.link) (from u other.link) first);
  }

pub keeps_ways : {n : ℕ} {old now : List (ℕ × ℕ)} {d e : ℕ} (x : ℕ) {before table : List ℕ}
    → AreDistances n old d before → AreDistances n now e table
    → ((w : ℕ) → Points now x w → w < n) → ((w : ℕ) → Points old x w → Points now x w)
    → ((w : ℕ) → Points now x w → Points old x w)
    → IsOrderedAlike now before table x → KeepsWays old d now e x
keeps_ways x were are below from to alike list = (
  ways_kept were are below from to (λ w link. (alike.some w link).0) (λ w link. (alike.some w link).1)
      (λ w u link other. (alike.order w u link other).0) list,
  ways_kept are were (λ w link. below w (from w link)) to from
      (λ w link. (alike.some w (from w link)).1) (λ w link. (alike.some w (from w link)).0)
      (λ w u link other. (alike.order w u (from w link) (from u other)).1) list,
)

-- The order of two nodes

first_or_not : (table : List ℕ) (w u : ℕ) → ComesFirst table w u ⊎ ¬ ComesFirst table w u
first_or_not table w u = elim (cases_lt (slice_index table w) (slice_index table u)) [
  | inl less ↦ inl (inl less)
  | inr past ↦ elim (cases_eq (slice_index table w) (slice_index table u)) [
    | inl same ↦ elim (cases_lt w u) [
      | inl low ↦ inl (inr (same, low))
      | inr high ↦ inr (⊎_elim (λ l. omega (arith, l, past)) (λ e. omega (arith, e.1, high)))
    ]
    | inr apart ↦ inr (⊎_elim (λ l. omega (arith, l, past)) (λ e. apart e.0))
  ]
]

first_either : (table : List ℕ) (w u : ℕ) → w ≢ u → ¬ ComesFirst table w u → ComesFirst table u w
first_either table w u apart not = elim (cases_lt (slice_index table u) (slice_index table w)) [
  | inl less ↦ inl less
  | inr past ↦ elim (cases_eq (slice_index table u) (slice_index table w)) [
    | inl same ↦ elim (cases_lt u w) [
      | inl low ↦ inr (same, low)
      | inr high ↦ absurd (not (inr (sym same, omega (arith, apart, high))))
    ]
    | inr other ↦ absurd (not (inl (omega (arith, past, other))))
  ]
]

not_both : (table : List ℕ) (w u : ℕ) → ComesFirst table w u → ¬ ComesFirst table u w
not_both table w u (inl less) (inl more) = omega (arith, less, more)
not_both table w u (inl less) (inr same) = omega (arith, less, same.0)
not_both table w u (inr same) (inl more) = omega (arith, more, same.0)
not_both table w u (inr same) (inr back) = omega (arith, same.1, back.1)

-- if one order is the same in both tables, so is the other
other_order : (before table : List ℕ) (w u : ℕ) → w ≢ u → (ComesFirst table u w → ComesFirst before u w)
    → ComesFirst before w u → ComesFirst table w u
other_order before table w u apart back first = elim (first_or_not table w u) [
  | inl is ↦ is
  | inr not ↦ absurd (not_both before w u first (back (first_either table w u apart not)))
]

-- what cannot be otherwise
stays : {links : List (ℕ × ℕ)} {before table : List ℕ} {x w : ℕ} → ¬ ¬ StaysInOrder links before table x w
    → StaysInOrder links before table x w
stays {links} {before} {table} {x} {w} not = record {
  some = (λ h e. not (λ s. s.some.0 h e), λ h e. not (λ s. s.some.1 h e));
  order = λ u link. (
    λ h. ⊎_elim (λ is. is) (λ out. absurd (not (λ s. out ((s.order u link).0 h)))) (first_or_not table w u),
    λ h. ⊎_elim (λ is. is) (λ out. absurd (not (λ s. out ((s.order u link).1 h)))) (first_or_not before w u),
  );
}

-- what the row of x shows
pub stays_by : {n : ℕ} {links : List (ℕ × ℕ)} (before table : List ℕ) (x w : ℕ) → IsNet n links
    → slice_index before w ≢ no_distance
    → slice_index table w ≢ no_distance → HoldTo (row n links x) (length (row n links x)) (IsAlikeAt before table w)
    → StaysInOrder links before table x w
stays_by {n} {links} before table x w is_net old new all = record {
  some = (λ _. new, λ _. old);
  order = λ u link. hold_out (IsAlikeAt before table w) n links x u is_net all link refl;
}

-- each neighbour has the same number as before, or stays in its order
module _ (links : List (ℕ × ℕ)) (before table : List ℕ) (x : ℕ)
    (each : (w : ℕ) → Points links x w → (slice_index table w ≡ slice_index before w)
    ⊎ StaysInOrder links before table x w) where
  some_alike : (w : ℕ) → Points links x w → (slice_index before w ≢ no_distance) ↔ (slice_index table w ≢ no_distance)
  some_alike w link = elim (each w link) [
    | inl e ↦ rw e (λ h. h, λ h. h)
    | inr s ↦ s.some
  ]

  order_alike : (w u : ℕ) → Points links x w → Points links x u → ComesFirst before w u ↔ ComesFirst table w u
  order_alike w u link other = elim (each w link) [
    | inr s ↦ s.order u other
    | inl e ↦ elim (each u other) [
      | inl f ↦ rw (e, f) (λ h. h, λ h. h)
      | inr s ↦ elim (cases_eq w u) [
        | inl same ↦ let f : slice_index table u ≡ slice_index before u = rw same at e in rw (e, f) (λ h. h, λ h. h)
        | inr apart ↦ (
          other_order before table w u apart (s.order w link).1,
          other_order table before w u apart (s.order w link).0,
        )
      ]
    ]
  ]

  pub ordered_alike : IsOrderedAlike links before table x
  ordered_alike = record { some = some_alike; order = order_alike }

-- The nodes that are listed

module _ (net : Network) (touched : LinkChanges) (before table : List ℕ) (is_net : IsNet net.nodes net.links)
    (list : List ℕ)
    (ends : (e : Edit) → Contains touched.edits.now e → HasEnds list e)
    (near : (y : ℕ) → HasOne (IsNextTo net.links) touched.turned.now y
    → Contains list y) (x : ℕ) (out : ¬ Contains list x) where
  no_cut : (w : ℕ) → ¬ IsCut touched.edits.now x w
  no_cut w (e, h, cuts) = go e (ends e h) cuts
    where
      go : (e : Edit) → HasEnds list e → ¬ Cuts e x w
      go (Cut u v) has (inl is) = out (rw is.0 has.0)
      go (Cut u v) has (inr is) = out (rw is.0 has.1)
      go (Add u v) has cuts = cuts
      go (Join u v) has cuts = cuts

  no_added : (w : ℕ) → ¬ IsAdded touched.edits.now x w
  no_added w (e, h, adds) = go e (ends e h) adds
    where
      go : (e : Edit) → HasEnds list e → ¬ Adds e x w
      go (Cut u v) has adds = adds
      go (Add u v) has (inl is) = out (rw is.0 has.0)
      go (Add u v) has (inr is) = out (rw is.0 has.1)
      go (Join u v) has (inl is) = out (rw is.0 has.0)
      go (Join u v) has (inr is) = out (rw is.0 has.1)

  not_turned : (w : ℕ) → Joins net.links w x → ¬ HasTurned touched x w
  not_turned w joins (inl here) = out (near x (x, here, inl refl))
  not_turned w joins (inr there) = out (near x (w, there, inr joins))

  pub others_keep : (links : List (ℕ × ℕ)) (d e : ℕ) → AreDistances net.nodes links d before
      → AreDistances net.nodes net.links e table
      → AreKept net.links touched links → AreNew net.links touched links → IsOrderedAlike net.links before table x
      → KeepsWays links d net.links e x
  others_keep links d e were are kept new alike = keeps_ways x were are (inside_net net.nodes net.links x is_net)
      (λ w link. elim (kept x w link) [
        | inl cut ↦ absurd (no_cut w cut)
        | inr left ↦ elim left [
          | inl same ↦ same
          | inr back ↦ absurd (not_turned w (inl back.0) back.1)
        ]
      ])
      (λ w link. elim (new x w link) [
        | inl added ↦ absurd (no_added w added)
        | inr left ↦ elim left [
          | inl was ↦ was
          | inr turned ↦ absurd (not_turned w (inr link) turned)
        ]
      ]) alike

touched_below : (net : Network) (touched : LinkChanges) → IsNet net.nodes net.links
    → All (HasEndsBelow net.nodes) touched.edits.now
    → All (λ (x : ℕ). x < net.nodes) touched.turned.now → (y : ℕ) → IsTouchedBy net touched y → y < net.nodes
touched_below net touched is_net edits turned y (inl (e, h, end)) =
    go e (All-contains (HasEndsBelow net.nodes) touched.edits.now e edits h) end
  where
    go : (e : Edit) → HasEndsBelow net.nodes e → IsEnd e y → y < net.nodes
    go (Cut u v) low (inl is) = rw is low.0
    go (Cut u v) low (inr is) = rw is low.1
    go (Add u v) low (inl is) = rw is low.0
    go (Add u v) low (inr is) = rw is low.1
    go (Join u v) low (inl is) = rw is low.0
    go (Join u v) low (inr is) = rw is low.1
touched_below net touched is_net edits turned y (inr (x, h, inl e)) =
    rw e (All-contains (λ (x : ℕ). x < net.nodes) touched.turned.now x turned h)
touched_below net touched is_net edits turned y (inr (x, h, inr joins)) =
    (joined_below net.nodes net.links x y is_net joins).1

ends_listed : (net : Network) (touched : LinkChanges) (list : List ℕ)
    → ((y : ℕ) → IsTouchedBy net touched y → Contains list y)
    → (e : Edit) → Contains touched.edits.now e → HasEnds list e
ends_listed net touched list has (Cut u v) h = (has u (inl (Cut u v, h, inl refl)), has v (inl (Cut u v, h, inr refl)))
ends_listed net touched list has (Add u v) h = (has u (inl (Add u v, h, inl refl)), has v (inl (Add u v, h, inr refl)))
ends_listed net touched list has (Join u v) h =
    (has u (inl (Join u v, h, inl refl)), has v (inl (Join u v, h, inr refl)))

-- the marked nodes in order
pub affected : (net : Network) (touched : LinkChanges) (before table : List ℕ) (Must May : ℕ
    → Type 0) {first last : Marks} {list : List ℕ}
    → IsNet net.nodes net.links → All (HasEndsBelow net.nodes) touched.edits.now
    → All (λ (x : ℕ). x < net.nodes) touched.turned.now
    → ((y : ℕ) → May y → IsBehindChange net.links before table y)
    → ((x : ℕ) → ¬ Must x → IsOrderedAlike net.links before table x)
    → HasMarked (λ y. IsTouchedBy net touched y ⊎ Must y) (λ y. IsTouchedBy net touched y ⊎ May y) first last
    → first.nodes.items ≡ [] → IsPermutation last.nodes.items list → IsNonDecreasing list
    → AreAffected net touched before table list
affected net touched before table Must May {first} {last} {list} is_net edits turned behind alike marked empty same
    rises = record {
      order = λ k inside.
          let once = IsDistinct-IsPermutation eqb nat_eq_equiv.symm last.nodes.items list same marked.are.once in
          let apart : slice_index list k ≢ slice_index list (k + 1) =
          λ e. false≢true (sym (apart_from_distinct eqb list k (k + 1) 0 once (omega arith) inside)
          ∙ eq-eqb (slice_index list k) (slice_index list (k + 1)) e) in
          omega (arith, apart, rises k (k + 1) 0 (omega arith) inside);
      below = λ k d inside. below (get_or list k d) (Contains-get_or list k d inside);
      ends = ends;
      just = λ y h. ⊎_elim inl (λ may. inr (behind y may)) (may_be y h);
      others =
          λ links d e were are kept new x _ out. others_keep net touched before table is_net list ends
          (λ y h. has y (inl (inr h))) x out
          links d e were are kept new (alike x (λ must. out (has x (inr must))));
    }
  where
    has : (y : ℕ) → IsTouchedBy net touched y ⊎ Must y → Contains list y
    has y is = Contains-permutation last.nodes.items list y same (marked.all y is)

    ends : (e : Edit) → Contains touched.edits.now e → HasEnds list e
    ends = ends_listed net touched list (λ y h. has y (inl h))

    may_be : (y : ℕ) → Contains list y → IsTouchedBy net touched y ⊎ May y
    may_be y h = ⊎_elim (λ old. absurd (Contains-none y (rw empty at old))) (λ is. is)
        (marked.just y (Contains-permutation list last.nodes.items y (IsPermutation-sym last.nodes.items list same) h))

    below : (y : ℕ) → Contains list y → y < net.nodes
    below y h = ⊎_elim (touched_below net touched is_net edits turned y)
        (λ may. let (w, link, _) = behind y may in (link_below net.nodes net.links y w is_net link).0) (may_be y h)

-- a node that no change has reordered
pub alike_apart : (links : List (ℕ × ℕ)) (n : ℕ) (before table changed : List ℕ) → IsNet n links → length table ≡ n
    → AreChanged before table changed → (x : ℕ)
    → ¬ HasOne (IsReordered links before table) changed x → IsOrderedAlike links before table x
alike_apart links n before table changed is_net one_each are x apart = ordered_alike links before table x (λ w link.
    elim (cases_eq (slice_index table w) (slice_index before w)) [
      | inl e ↦ inl e
      | inr other ↦ inr (stays (λ out. apart (
        w,
        (are.just w).1 (rw one_each (inside_net n links x is_net w link), other),
        (link, out),
      )))
    ])

-- a link to a listed node is a link to one whose distance has changed
pub behind_change : (links : List (ℕ × ℕ)) (before table changed : List ℕ) → AreChanged before table changed → (y : ℕ)
    → HasOne (IsBehind links) changed y → IsBehindChange links before table y
behind_change links before table changed are y (w, h, link) = (w, link, ((are.just w).0 h).1)
