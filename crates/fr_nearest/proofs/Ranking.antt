-- The ways of a node are listed from its row, and sorted; the nearest is found in the row.
use Rattle.std.proofs.Common.{◌↔◌, Bool, Contains, IsTrue, IsPermutation, List, MatchOption, None, Option, Some, [], ap}
use Rattle.std.proofs.Common.{arith}
use Rattle.std.proofs.Common.{eq-eqb, eqb, get_or, inl, inr, length, map, refl, set, slice_index, subst, sym, take, ℕ}
use Rattle.std.proofs.Common.{⊎_elim, ◌++◌, ◌+◌, ◌<◌, ◌^◌, ◌∙◌, ◌∷◌, ◌≡◌, ◌≢◌, ◌≤◌, ◌⊎◌}
use Rattle.std.specs.Cmp.{nat_eq_equiv}
use Rattle.std.specs.List.Sorted.{IsNonDecreasingBy}
use Rattle.std.proofs.lemmas.Bool.{cases_Bool, cases_eq, cases_lt, false≢true}
use Rattle.std.proofs.lemmas.List.{ext_get_or, get_or-map, get_or-take, get_or_default, length-map, length-take-le}
use Rattle.std.proofs.lemmas.List.{map-append}
use Rattle.std.proofs.lemmas.List.{take-set, take_all, take_more, take_more_set}
use Rattle.std.proofs.lemmas.Nat.{mod-mul-add}
use Rattle.std.proofs.lemmas.List.Elements.{Contains-append_left, Contains-get_or, Contains-push, Contains-push_cases}
use Rattle.std.proofs.lemmas.List.Sorted.{Contains-permutation, IsPermutation-map, IsPermutation-sym}
use Rattle.std.proofs.lemmas.Map.Keys.{IsDistinct-IsPermutation, apart_from_distinct}
use Rattle.fr_graph.proofs.Lists.{once_more}
use Rattle.fr_graph.proofs.Linking.{link_below}
use Rattle.fr_graph.proofs.Neighbours.{entry_is, in_of_row, out_of_row, row_of_in, row_of_out, row_rises}
use Rattle.fr_graph.specs.Limits.{most_nodes}
use Rattle.fr_graph.specs.Links.{IsNet, Points}
use Rattle.fr_graph.specs.Network.{Network}
use Rattle.fr_graph.specs.Rows.{row}
use Rattle.fr_graph.specs.declared.first.First.{First}
use Rattle.fr_graph.specs.declared.first.First.TheVariants.{Inward, Outward}
use Rattle.fr_nearest.specs.Distances.{AreDistances, IsMeasureOf, Measured, no_distance}
use Rattle.fr_nearest.specs.Ranks.{AreListed, AreListedTo, AreOut, AreRanked, AreRankedTo, AreSortedTo, IsBestSo, IsOut}
use Rattle.fr_nearest.specs.Ranks.{WasOut}
use Rattle.fr_nearest.specs.Ranks.{number_of, rank_of}
use Rattle.fr_nearest.specs.LinkChanges.{HadLinks}
use Rattle.fr_nearest.specs.Ways.{AreWays, IsFirstWay, IsNearer, IsWay}
use Rattle.fr_nearest.proofs.Walking.{distinct_of, has_path}

-- The row up to a place

-- an entry is in the row before a place
up_to : (entries : List (ℕ × First)) (place k : ℕ) (e : ℕ × First) → k < place → place ≤ length entries
    → Contains (take place entries) (get_or entries k e)
up_to entries place k e lt le =
    let here : length (take place entries) ≡ place = length-take-le place entries le in (
      k,
      omega (arith, here, lt),
      get_or-take place entries k (get_or entries k e) lt ∙ get_or_default entries k (get_or entries k e) e (omega (
        arith,
        lt,
        le,
      )),
    )

-- where it is
pub place_of : (entries : List (ℕ × First)) (place : ℕ) (e : ℕ × First) → place ≤ length entries
    → Contains (take place entries) e
    → (k : ℕ) × (k < place) × ((d : ℕ × First) → get_or entries k d ≡ e)
place_of entries place e le (k, l, is) =
    let lt : k < place = omega (arith, l, length-take-le place entries le) in
    (k, lt, λ d. get_or_default entries k d e (omega (arith, lt, le)) ∙ (sym (get_or-take place entries k e lt) ∙ is))

module _ (n : ℕ) (links : List (ℕ × ℕ)) (x : ℕ) (entries : List (ℕ × First)) (place : ℕ) (are : entries
    ≡ row n links x) (inside : place < length entries) where
  abbrev entry : ℕ × First
  entry = get_or entries place (0, Outward)

  -- the neighbours before have lower numbers
  pub lower : (k : ℕ) (d : ℕ × First) → k < place → (get_or entries k d).0 < entry.0
  lower k d lt =
      let rises =
      row_rises n links x k place (0, Outward) lt (subst (λ (es : List (ℕ × First)). place < length es) are inside) in
      let here : (get_or entries k (0, Outward)).0 < entry.0 =
      subst (λ (es : List (ℕ × First)). (get_or es k (0, Outward)).0
      < (get_or es place (0, Outward)).0) (sym are) rises in
      subst (λ (e : ℕ × First). e.0
      < entry.0) (get_or_default entries k (0, Outward) d (omega (arith, lt, inside))) here

  more : take (place + 1) entries ≡ take place entries ++ entry ∷ []
  more = take_more entries place (0, Outward) inside

  -- an entry that was there before the place is there before the next one
  earlier : (Out : ℕ × First → Type 0) {Some : Type 0} (w : ℕ)
      → ((f : First) × Contains (take place entries) (w, f) × Out (w, f)) × Some
      → ((f : First) × Contains (take (place + 1) entries) (w, f) × Out (w, f)) × Some
  earlier Out w ((f, h, is), some) =
      ((f, rw more (Contains-append_left (take place entries) (entry ∷ []) (w, f) h), is), some)

  module _ {Out : ℕ × First → Type 0} where
    -- a way at this place
    pub listed_way : {table list : List ℕ} → AreListedTo Out table entries place list → Out entry
        → slice_index table entry.0 ≢ no_distance
        → AreListedTo Out table entries (place + 1) (list ++ entry.0 ∷ [])
    listed_way {table} {list} l out some =
        let fresh : ¬ Contains list entry.0 = λ h.
        let was = ((l.just entry.0).0 h).0 in
        let at = place_of entries place (entry.0, was.0) (omega (arith, inside)) was.1 in
        let low = lower at.0 (0, Outward) at.1 in
        let same : (get_or entries at.0 (0, Outward)).0 ≡ entry.0 = ap (λ (e : ℕ × First). e.0) (at.2 (0, Outward)) in
        omega (arith, low, same) in
        record {
          just = λ w. (
            λ h. elim (Contains-push_cases list entry.0 w h) [
              | inl old ↦ earlier Out w ((l.just w).0 old)
              | inr e ↦ rw (sym e) ((entry.1, rw more (Contains-push (take place entries) entry), out), some)
            ],
            λ ((f, h, is), has). elim (Contains-push_cases (take place entries) entry (w, f) (rw more at h)) [
              | inl old ↦ Contains-append_left list (entry.0 ∷ []) w ((l.just w).1 ((f, old, is), has))
              | inr e ↦ let same : entry.0 ≡ w =
                  ap (λ (q : ℕ × First). q.0) e in subst (Contains (list ++ entry.0
                  ∷ [])) same (Contains-push list entry.0)
            ],
          );
          once = once_more list entry.0 l.once fresh;
        }

    -- no way at this place
    pub listed_other : {table list : List ℕ} → AreListedTo Out table entries place list
        → (Out entry → slice_index table entry.0 ≡ no_distance)
        → AreListedTo Out table entries (place + 1) list
    listed_other {table} {list} l none = record {
      just = λ w. (
        λ h. earlier Out w ((l.just w).0 h),
        λ ((f, h, is), has). elim (Contains-push_cases (take place entries) entry (w, f) (rw more at h)) [
          | inl old ↦ (l.just w).1 ((f, old, is), has)
          | inr e ↦
              let same : entry.0 ≡ w = ap (λ (q : ℕ × First). q.0) e in
              absurd (has (subst (λ (q : ℕ). slice_index table q ≡ no_distance) same (none (subst Out (sym e) is))))
        ],
      );
      once = l.once;
    }

    -- the same for ranks: that of the entry is written after those before
    pub ranked_way : {table : List ℕ} (ranks : List ℕ) (count : ℕ) → count < length ranks
        → AreRankedTo Out table entries place (take count ranks) → Out entry → slice_index table entry.0 ≢ no_distance
        → AreRankedTo Out table entries (place + 1) (take (count + 1) (set ranks count (rank_of table entry.0)))
    ranked_way {table} ranks count room (list, l, is) out some = (
      list ++ entry.0 ∷ [],
      listed_way l out some,
      rw (take_more_set ranks count (rank_of table entry.0) room, is)
          (sym (map-append (rank_of table) list (entry.0 ∷ []))),
    )

    pub ranked_other : {table : List ℕ} (ranks : List ℕ) (count rank : ℕ)
        → AreRankedTo Out table entries place (take count ranks)
        → (Out entry → slice_index table entry.0 ≡ no_distance)
        → AreRankedTo Out table entries (place + 1) (take count (set ranks count rank))
    ranked_other {table} ranks count rank (list, l, is) none =
        (list, listed_other l none, take-set ranks count rank ∙ is)

    -- the rank is written, and counts if it is that of a way
    pub ranked_more : {table : List ℕ} (is_out : Bool) (ranks : List ℕ) {after : List ℕ} (count : ℕ) {more : ℕ}
        → IsTrue is_out ↔ Out entry → count < length ranks
        → after ≡ set ranks count (rank_of table entry.0)
        → (IsTrue is_out → slice_index table entry.0 ≢ no_distance → more ≡ count + 1)
        → (¬ (IsTrue is_out × (slice_index table entry.0 ≢ no_distance)) → more ≡ count)
        → AreRankedTo Out table entries place (take count ranks)
        → AreRankedTo Out table entries (place + 1) (take more after)
    ranked_more {table} is_out ranks {after} count {more} test room put way other ranked =
        elim (cases_Bool is_out) [
          | inl t ↦ elim (cases_eq (slice_index table entry.0) no_distance) [
            | inl none ↦ rw (put, other (λ h. h.1 none))
                (ranked_other ranks count (rank_of table entry.0) ranked (λ _. none))
            | inr some ↦ rw (put, way t some) (ranked_way ranks count room ranked (test.0 t) some)
          ]
          | inr f ↦ rw (put, other (λ h. false≢true (sym f ∙ h.0)))
              (ranked_other ranks count (rank_of table entry.0) ranked (λ out. absurd (false≢true (sym f
              ∙ test.1 out))))
        ]

  -- the entry at an earlier place or at this one
  at_place : (k : ℕ) (e : ℕ × First) → ¬ (k < place) → k < place + 1 → get_or entries k e ≡ entry
  at_place k e past lt =
      let is : k ≡ place = omega (arith, past, lt) in rw is (get_or_default entries place e (0, Outward) inside)

  -- the entry is nearer than those before
  pub best_way : (table : List ℕ) (least : ℕ) (nearest : Option ℕ) → IsBestSo table entries place least nearest
      → entry.1 ≡ Outward
      → slice_index table entry.0 < least → least ≤ no_distance
      → IsBestSo table entries (place + 1) (slice_index table entry.0) (Some entry.0)
  best_way table least nearest so out near most = (
    refl,
    record {
      listed =
          rw more (subst (λ (q : ℕ × First). Contains (take place entries ++ entry
          ∷ []) q) (entry_is entry Outward out) (Contains-push (take place entries) entry));
      some = λ e. omega (arith, e, near, most);
      best = λ k e lt outward. elim (cases_lt k place) [
        | inl less ↦ inl (before nearest so k e less outward)
        | inr past ↦ rw (at_place k e (λ q. omega (arith, q, past)) lt) (inr (refl, omega arith))
      ];
    },
  )
    where
      before : (o : Option ℕ) → IsBestSo table entries place least o → (k : ℕ) (e : ℕ × First) → k < place
          → (get_or entries k e).1 ≡ Outward
          → slice_index table entry.0 < slice_index table (get_or entries k e).0
      before None (none, all) k e lt outward = omega (arith, near, most, all k e lt outward)
      before (Some w) (is, best) k e lt outward =
          ⊎_elim (λ l. omega (arith, l, near, is)) (λ l. omega (arith, l.0, near, is)) (best.best k e lt outward)

  -- the entry is not nearer, or its link does not point to it
  pub best_other : (table : List ℕ) (least : ℕ) (nearest : Option ℕ) → IsBestSo table entries place least nearest
      → slice_index table entry.0 ≤ no_distance
      → (entry.1 ≡ Outward → least ≤ slice_index table entry.0) → IsBestSo table entries (place + 1) least nearest
  best_other table least None (none, all) fits far = (
    none,
    λ k e lt outward. elim (cases_lt k place) [
      | inl less ↦ all k e less outward
      | inr past ↦
          let at = at_place k e (λ q. omega (arith, q, past)) lt in
          rw at (let le = far (rw at at outward) in omega (arith, le, none, fits))
    ],
  )
  best_other table least (Some w) (is, best) fits far = (
    is,
    record {
      listed = rw more (Contains-append_left (take place entries) (entry ∷ []) (w, Outward) best.listed);
      some = best.some;
      best = λ k e lt outward. elim (cases_lt k place) [
        | inl less ↦ best.best k e less outward
        | inr past ↦
            let at = at_place k e (λ q. omega (arith, q, past)) lt in
            let le = far (rw at at outward) in
            let found = place_of entries place (w, Outward) (omega (arith, inside)) best.listed in
            let same : (get_or entries found.0 (0, Outward)).0 ≡ w =
            ap (λ (q : ℕ × First). q.0) (found.2 (0, Outward)) in
            let low = lower found.0 (0, Outward) found.1 in
            rw at (⊎_elim (λ less. inl (omega (arith, less, is)))
            (λ ge. inr (omega (arith, ge, le, is), omega (arith, low, same)))
            (cases_lt (slice_index table w) (slice_index table entry.0)))
      ];
    },
  )

-- The whole row

pub listed_all : {Out : ℕ × First
    → Type 0} {entries : List (ℕ × First)} {links : List (ℕ × ℕ)} {x : ℕ} {table list : List ℕ} (place : ℕ)
    → AreOut Out entries links x
    → length entries ≤ place → AreListedTo Out table entries place list → AreListed links table x list
listed_all {Out} {entries} {links} {x} {table} {list} place out end l =
    let whole : take place entries ≡ entries = take_all place entries end in
    record {
      just = λ w. (
        λ h. let was = (l.just w).0 h in ((out w).1 (was.0.0, rw whole at was.0.1, was.0.2), was.1),
        λ (h, has). let at = (out w).0 h in (l.just w).1 ((at.0, rw whole at.1, at.2), has),
      );
      once = distinct_of list l.once;
    }

-- the links now, and those before a round
pub out_now : (n : ℕ) (links : List (ℕ × ℕ)) (x : ℕ) → IsNet n links → AreOut IsOut (row n links x) links x
out_now n links x is_net w = (
  λ link. (Outward, row_of_out n links x w is_net link, refl),
  λ (f, h, is). out_of_row n links x w (rw is at h),
)

pub out_before : (n : ℕ) (now : List (ℕ × ℕ)) (counts : List ℕ) (before : List (ℕ × ℕ)) (x : ℕ) → IsNet n now
    → HadLinks now counts before x
    → AreOut (WasOut counts x) (row n now x) before x
out_before n now counts before x is_net had w = (
  λ link. elim ((had w).0 link) [
    | inl out ↦ (Outward, row_of_out n now x w is_net out.0, out.1)
    | inr back ↦ (Inward, row_of_in n now x w is_net back.0, back.1)
  ],
  λ (f, h, is). was f h is,
)
  where
    was : (f : First) → Contains (row n now x) (w, f) → WasOut counts x (w, f) → Points before x w
    was Outward h is = (had w).1 (inl (out_of_row n now x w h, is))
    was Inward h is = (had w).1 (inr (in_of_row n now x w h, is))

-- they lead to nodes
pub inside_net : (n : ℕ) (links : List (ℕ × ℕ)) (x : ℕ) → IsNet n links → (w : ℕ) → Points links x w → w < n
inside_net n links x is_net w link = (link_below n links x w is_net link).1

pub had_below : (n : ℕ) (now : List (ℕ × ℕ)) (counts : List ℕ) (before : List (ℕ × ℕ)) (x : ℕ) → IsNet n now
    → HadLinks now counts before x
    → (w : ℕ) → Points before x w → w < n
had_below n now counts before x is_net had w link =
    ⊎_elim (λ out. (link_below n now x w is_net out.0).1) (λ back. (link_below n now w x is_net back.0).0)
    ((had w).0 link)

-- The nodes with these ranks

number_back : (table : List ℕ) (w : ℕ) → w < most_nodes → number_of (rank_of table w) ≡ w
number_back table w low = mod-mul-add (slice_index table w) (2 ^ 16) w (omega (arith, low))

numbers_back : (table list : List ℕ) → ((w : ℕ) → Contains list w → w < most_nodes)
    → map number_of (map (rank_of table) list) ≡ list
numbers_back table list low =
    let ranks = map (rank_of table) list in
    let long : length ranks ≡ length list = length-map list (rank_of table) in
    let both : length (map number_of ranks) ≡ length list = length-map ranks number_of ∙ long in
    ext_get_or 0 (map number_of ranks) list both (λ k l.
    let inside : k < length list = omega (arith, l, both) in
    get_or-map number_of ranks k 0 0 (omega (arith, inside, long))
    ∙ (ap number_of (get_or-map (rank_of table) list k 0 0 inside)
    ∙ number_back table (slice_index list k) (low (slice_index list k) (Contains-get_or list k 0 inside))))

rank_back : (table list : List ℕ) (rank : ℕ) → ((w : ℕ) → Contains list w → w < most_nodes)
    → Contains (map (rank_of table) list) rank → rank_of table (number_of rank) ≡ rank
rank_back table list rank low (k, l, is) =
    let inside : k < length list = omega (arith, l, length-map list (rank_of table)) in
    let w = slice_index list k in
    let from : rank ≡ rank_of table w = sym is ∙ get_or-map (rank_of table) list k 0 rank inside in
    ap (λ (r : ℕ). rank_of table (number_of r)) from
    ∙ (ap (rank_of table) (number_back table w (low w (Contains-get_or list k 0 inside))) ∙ sym from)

module _ {n : ℕ} {links : List (ℕ × ℕ)} {d x : ℕ} {table : List ℕ} (below : (w : ℕ) → Points links x w → w
    < n) (are : AreDistances n links d table) where
  -- the nodes with a distance to which links point are the ways
  pub way_of : (w : ℕ) → Points links x w → slice_index table w ≢ no_distance → IsWay links d x w
  way_of w link some = record {
    link = link;
    leads = has_path ((are.each w (below w link)).some some);
  }

  pub some_of : (w : ℕ) → IsWay links d x w → slice_index table w ≢ no_distance
  some_of w way none = (are.each w (below w way.link)).none none way.leads

  pub nearer_of : (w u : ℕ) → IsWay links d x w → IsWay links d x u
      → (slice_index table w < slice_index table u) ⊎ ((slice_index table w ≡ slice_index table u) × (w < u))
      → IsNearer links d w u
  nearer_of w u way other before = record {
    near = slice_index table w;
    far = slice_index table u;
    this = (are.each w (below w way.link)).some (some_of w way);
    other = (are.each u (below u other.link)).some (some_of u other);
    before = before;
  }

  -- once they are sorted
  pub ways_of : {list sorted : List ℕ} → n ≤ most_nodes → AreListed links table x list
      → IsPermutation list sorted → IsNonDecreasingBy (rank_of table) sorted → AreWays links d x sorted
  ways_of {list} {sorted} few l same rises =
      let just : (w : ℕ) → Contains sorted w → IsWay links d x w = λ w h.
      let was = (l.just w).0 (Contains-permutation sorted list w (IsPermutation-sym list sorted same) h) in
      way_of w was.0 was.1 in
      record {
        just = λ w. (just w, λ way. Contains-permutation list sorted w same ((l.just w).1 (way.link, some_of w way)));
        order = λ i j lt inside.
            let w = slice_index sorted i in
            let u = slice_index sorted j in
            let way = just w (Contains-get_or sorted i 0 (omega (arith, lt, inside))) in
            let other = just u (Contains-get_or sorted j 0 inside) in
            let low = (below w way.link) in
            let high = (below u other.link) in
            let rank = rises i j 0 (omega (arith, lt)) inside in
            let once = IsDistinct-IsPermutation eqb nat_eq_equiv.symm list sorted same l.once in
            let apart : w ≢ u =
            λ e. false≢true (sym (apart_from_distinct eqb sorted i j 0 once lt inside) ∙ eq-eqb w u e) in
            nearer_of w u way other (elim (cases_lt (slice_index table w) (slice_index table u)) [
              | inl less ↦ inl less
              | inr past ↦ inr (
                omega (arith, rank, past, low, high, few),
                omega (arith, rank, past, low, high, few, apart),
              )
            ]);
      }

  pub ways_of_ranks : {ranks sorted : List ℕ} → n ≤ most_nodes → AreRanked links table x ranks
      → IsPermutation ranks sorted → IsNonDecreasingBy (λ (r : ℕ). r) sorted
      → AreWays links d x (map number_of sorted)
  ways_of_ranks {ranks} {sorted} few (list, l, is) same rises =
      let low : (w : ℕ) → Contains list w → w < most_nodes = λ w h.
      omega (arith, few, below w ((l.just w).0 h).0) in
      let numbers : IsPermutation list (map number_of sorted) =
      subst (λ (xs : List ℕ). IsPermutation xs (map number_of sorted))
      (ap (map number_of) is ∙ numbers_back table list low) (IsPermutation-map number_of ranks sorted same) in
      let rank_at : (k e : ℕ) → k < length sorted
      → rank_of table (get_or (map number_of sorted) k e) ≡ slice_index sorted k = λ k e inside.
      let rank = slice_index sorted k in
      let there : Contains ranks rank =
      Contains-permutation sorted ranks rank (IsPermutation-sym ranks sorted same)
      (Contains-get_or sorted k 0 inside) in
      ap (rank_of table) (get_or-map number_of sorted k 0 e inside)
      ∙ rank_back table list rank low (subst (λ (xs : List ℕ). Contains xs rank) is there) in
      ways_of few l numbers (λ i j e lt inside.
      let here : j < length sorted = omega (arith, inside, length-map sorted number_of) in
      rw (rank_at i e (omega (arith, lt, here)), rank_at j e here) (rises i j 0 lt here))

  pub ways_sorted : {count : ℕ} {ranks after : List ℕ} → n ≤ most_nodes → AreRanked links table x (take count ranks)
      → AreSortedTo count ranks after
      → AreWays links d x (take count after)
  ways_sorted few ranked is = subst (AreWays links d x) (sym is.numbers) (ways_of_ranks few ranked is.same is.rises)

module _ {net : Network} {d x : ℕ} {table : List ℕ} (is_net : IsNet net.nodes net.links)
    (are : AreDistances net.nodes net.links d table) where
  abbrev inside : (w : ℕ) → Points net.links x w → w < net.nodes
  inside = inside_net net.nodes net.links x is_net

  pub best_none : (least place : ℕ) → length (row net.nodes net.links x) ≤ place
      → IsBestSo table (row net.nodes net.links x) place least None
      → (w : ℕ) → ¬ IsWay net.links d x w
  best_none least place end so w way =
      let (k, l, e) = row_of_out net.nodes net.links x w is_net way.link in
      let Far : ℕ × First → Type 0 = λ q. q.1 ≡ Outward → slice_index table q.0 ≡ no_distance in
      let far : Far (w, Outward) = subst Far e (so.1 k (w, Outward) (omega (arith, l, end))) in
      some_of inside are w way (far refl)

  pub best_first : (least place w : ℕ) → length (row net.nodes net.links x) ≤ place
      → IsBestSo table (row net.nodes net.links x) place least (Some w)
      → IsFirstWay net.links d x w
  best_first least place w end so =
      let entries = row net.nodes net.links x in
      let best = so.1 in
      let link : Points net.links x w = out_of_row net.nodes net.links x w
      (subst (λ (es : List (ℕ × First)). Contains es (w, Outward)) (take_all place entries end) best.listed) in
      let way = way_of inside are w link best.some in
      record {
        way = way;
        first = λ u other apart.
            let (k, l, e) = row_of_out net.nodes net.links x u is_net other.link in
            let Before : ℕ × First → Type 0 = λ q. q.1 ≡ Outward
            → (slice_index table w < slice_index table q.0)
            ⊎ ((slice_index table w ≡ slice_index table q.0) × (w ≤ q.0)) in
            let before : Before (u, Outward) = subst Before e (best.best k (u, Outward) (omega (arith, l, end))) in
            nearer_of inside are w u way other (⊎_elim (λ less. inl less) (λ le. inr (
              le.0,
              omega (arith, le.1, apart),
            )) (before refl));
      }

-- the nearest way, if there is one
pub nearest_answer : (net : Network) (m : Measured) (x : ℕ) → IsNet net.nodes net.links → IsMeasureOf net m
    → (least place : ℕ) (nearest : Option ℕ)
    (entries : List (ℕ × First)) (table : List ℕ) → entries ≡ row net.nodes net.links x → table ≡ m.table
    → length entries ≤ place
    → IsBestSo table entries place least nearest
    → MatchOption nearest ((w : ℕ) → ¬ IsWay net.links m.dest x w) (IsFirstWay net.links m.dest x)
nearest_answer net m x is_net are least place nearest entries table is same end so =
    go nearest
    (subst (λ (es : List (ℕ
    × First)). IsBestSo m.table es place least nearest) is
    (subst (λ (xs : List ℕ). IsBestSo xs entries place least nearest) same so))
  where
    rest : length (row net.nodes net.links x) ≤ place
    rest = subst (λ (es : List (ℕ × First)). length es ≤ place) is end

    go : (o : Option ℕ) → IsBestSo m.table (row net.nodes net.links x) place least o
        → MatchOption o ((w : ℕ) → ¬ IsWay net.links m.dest x w) (IsFirstWay net.links m.dest x)
    go None best = best_none is_net are least place rest best
    go (Some w) best = best_first is_net are least place w rest best
