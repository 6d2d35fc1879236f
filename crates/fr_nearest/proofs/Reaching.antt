-- The search keeps its state when it reaches a node and when it has read a row, and ends with the distances.
use Rattle.std.proofs.Common.{List, [], arith, eqb, get_or, inl, inr, length, ne_eqb, refl, replicate, set, slice_index}
use Rattle.std.proofs.Common.{subst, ℕ, ⊎_elim}
use Rattle.std.proofs.Common.{◌++◌, ◌+◌, ◌<◌, ◌∙◌, ◌∷◌, ◌≡◌, ◌≢◌, ◌≤◌}
use Rattle.std.proofs.lemmas.Bool.{cases_eq, cases_lt}
use Rattle.std.proofs.lemmas.List.{get_or_append_left, get_or_default, get_or_past, get_or_push, get_or-replicate}
use Rattle.std.proofs.lemmas.List.{get_or-set_other, get_or-set_same, length-replicate, length-set, length_push}
use Rattle.std.proofs.lemmas.List.Elements.{Contains-append_left, Contains-push}
use Rattle.std.proofs.lemmas.List.Sums.{count_by-le-length, sum_by-set}
use Rattle.fr_graph.proofs.Counting.{one_passes, weigh}
use Rattle.fr_graph.proofs.Linking.{link_below}
use Rattle.fr_graph.proofs.Neighbours.{row_of_in}
use Rattle.fr_graph.proofs.SideRows.{entry_below, entry_leads}
use Rattle.fr_graph.specs.Limits.{most_nodes}
use Rattle.fr_graph.specs.Links.{IsNet, Points}
use Rattle.fr_graph.specs.Network.{Network}
use Rattle.fr_graph.specs.Rows.{row}
use Rattle.fr_graph.specs.declared.first.First.{First}
use Rattle.fr_graph.specs.declared.first.First.TheVariants.{Inward, Outward}
use Rattle.fr_nearest.specs.Distances.{no_distance}
use Rattle.fr_nearest.specs.Local.{IsSmall}
use Rattle.fr_nearest.specs.Search.{HasReached, IsReading, IsSearch, none_count}
use Rattle.fr_nearest.proofs.Measuring.{AllAgree}

-- a node is reached, so one fewer has no distance
one_fewer : (table : List ℕ) (y v : ℕ) → y < length table → slice_index table y ≡ no_distance → v ≢ no_distance
    → none_count (set table y v) + 1 ≡ none_count table
one_fewer table y v low none some =
    let weight : ℕ → ℕ = λ number. weigh (eqb number no_distance) in
    let one : weight (slice_index table y) ≡ 1 = rw none refl in
    let other : weight v ≡ 0 = rw (ne_eqb v no_distance some) refl in
    omega (arith, sum_by-set weight table y v 0 low, one, other)

-- the search reaches y from x, the node at the place `read`
module _ {net : Network} {d : ℕ} {table list : List ℕ} (read x y : ℕ) (is_net : IsNet net.nodes net.links)
    (few : net.nodes ≤ most_nodes)
    (s : IsSearch net d table list read) (left : read < length list) (at : slice_index list read
    ≡ x) (link : Points net.links y x)
    (none : slice_index table y ≡ no_distance) where
  abbrev next : ℕ
  next = slice_index table x + 1

  abbrev after : List ℕ
  after = set table y next

  abbrev more : List ℕ
  more = list ++ y ∷ []

  long : length more ≡ length list + 1
  long = length_push list y

  low_y : y < length table
  low_y = omega (arith, (link_below net.nodes net.links y x is_net link).0, s.one_each)

  short_next : next ≤ read + 1
  short_next =
      let close : slice_index table x ≤ read = subst (λ (z : ℕ). slice_index table z ≤ read) at (s.short read left) in
      omega (arith, close)

  few_listed : length list ≤ net.nodes
  few_listed = omega (arith, s.room)

  listed_some : (k : ℕ) → k < length list → slice_index list k ≢ y
  listed_some k l e =
      let close : slice_index table y ≤ k = subst (λ (z : ℕ). slice_index table z ≤ k) e (s.short k l) in
      omega (arith, close, none, l, few_listed, few)

  at_y : slice_index after y ≡ next
  at_y = get_or-set_same table y next 0 low_y

  at_other : (z : ℕ) → z ≢ y → slice_index after z ≡ slice_index table z
  at_other z apart = get_or-set_other table y z next 0 apart

  list_at : (k : ℕ) → k < length list → slice_index more k ≡ slice_index list k
  list_at k l = get_or_append_left list (y ∷ []) 0 k l

  list_end : slice_index more (length list) ≡ y
  list_end = get_or_push list y 0 (length list) refl

  value_at : (k : ℕ) → k < length list → slice_index after (slice_index more k) ≡ slice_index table (slice_index list k)
  value_at k l = rw (list_at k l) (at_other (slice_index list k) (listed_some k l))

  value_end : slice_index after (slice_index more (length list)) ≡ next
  value_end = rw list_end at_y

  -- each place of the longer list is one of the list, or the last
  places : (P : ℕ → Type 0) → ((k : ℕ) → k < length list → P k) → P (length list) → (k : ℕ) → k < length more → P k
  places P inner last k l = elim (cases_lt k (length list)) [
    | inl lt ↦ inner k lt
    | inr ge ↦ let is : length list ≡ k = omega (arith, long) in subst P is last
  ]

  some_low : (z : ℕ) → z < net.nodes → slice_index table z ≢ no_distance → slice_index table z < net.nodes
  some_low z low some =
      let (k, l, e) = s.listed z low some in
      let is : slice_index list k ≡ z = get_or_default list k 0 z l ∙ e in
      let close : slice_index table z ≤ k = subst (λ (q : ℕ). slice_index table q ≤ k) is (s.short k l) in
      omega (arith, close, l, few_listed)

  at_x : slice_index after x ≡ slice_index table x
  at_x = at_other x (subst (λ (z : ℕ). z ≢ y) at (listed_some read left))

  from_there : (z : ℕ) → z < net.nodes → slice_index after z ≢ no_distance → ¬ (z ≡ d)
      → (w : ℕ) × Points net.links z w × (slice_index after z ≡ slice_index after w + 1)
  from_there z low some apart = elim (cases_eq z y) [
    | inl e ↦ (x, rw e link, rw (e, at_y, at_x) refl)
    | inr other ↦
        let was = at_other z other in
        let held : slice_index table z ≢ no_distance = λ e. some (was ∙ e) in
        let (w, points, is) = s.from z low held apart in
        let not_y : w ≢ y = λ e. let far : slice_index table w ≡ no_distance = rw e none in
        omega (arith, far, is, some_low z low held, few) in
        (w, points, was ∙ (is ∙ rw (at_other w not_y) refl))
  ]

  done_there : (k z : ℕ) → k < read → Points net.links z (slice_index more k)
      → slice_index after z ≤ slice_index after (slice_index more k) + 1
  done_there k z l points =
      let inside : k < length list = omega (arith, l, left) in
      let was = s.done k z l (subst (λ (q : ℕ). Points net.links z q) (list_at k inside) points) in
      rw (value_at k inside) (elim (cases_eq z y) [
        | inl e ↦
            let far : slice_index table z ≡ no_distance = rw e none in
            absurd (omega (arith, was, far, s.short k inside, inside, few_listed, few))
        | inr other ↦ omega (arith, was, at_other z other)
      ])

  rising_there : (i j : ℕ) → i ≤ j → j < length more
      → slice_index after (slice_index more i) ≤ slice_index after (slice_index more j)
  rising_there i j le l = elim (cases_lt j (length list)) [
    | inl lt ↦ omega (arith, value_at i (omega (arith, le, lt)), value_at j lt, s.rising i j le lt)
    | inr ge ↦
        let last : length list ≡ j = omega (arith, ge, l, long) in
        elim (cases_lt i (length list)) [
          | inl lt ↦
              let level = s.level i lt left in
              subst (λ (q : ℕ). slice_index after (slice_index more i) ≤ slice_index after (slice_index more q)) last
              (omega (
                arith,
                value_at i lt,
                value_end,
                subst (λ (q : ℕ). slice_index table (slice_index list i) ≤ slice_index table q + 1) at level,
              ))
          | inr past ↦ let same : i ≡ j = omega (arith, past, le, last) in rw same (omega arith)
        ]
  ]

  level_there : (k : ℕ) → k < length more → read < length more
      → slice_index after (slice_index more k) ≤ slice_index after (slice_index more read) + 1
  level_there k l _ =
      let base : slice_index after (slice_index more read) ≡ slice_index table x = value_at read left ∙ rw at refl in
      places (λ q. slice_index after (slice_index more q) ≤ slice_index after (slice_index more read) + 1)
      (λ q lt. omega (arith, value_at q lt, value_at read left, s.level q lt left))
      (omega (arith, value_end, base)) k l

  pub reaches : IsSearch net d after more read
  reaches = record {
    one_each = length-set table y next ∙ s.one_each;
    node = s.node;
    home =
        at_other d (λ e. let far : slice_index table d ≡ no_distance = rw e none in omega (arith, far, s.home))
        ∙ s.home;
    inside = omega (arith, s.inside, long);
    below =
        places (λ k. slice_index more k < net.nodes) (λ k l. rw (list_at k l) (s.below k l)) (rw list_end (omega (
          arith,
          low_y,
          s.one_each,
        )));
    short =
        places (λ k. slice_index after (slice_index more k) ≤ k) (λ k l. rw (value_at k l) (s.short k l)) (omega (
          arith,
          value_end,
          short_next,
          left,
        ));
    listed = λ z low some. elim (cases_eq z y) [
      | inl e ↦ rw e (Contains-push list y)
      | inr other ↦ Contains-append_left list (y ∷ []) z (s.listed z low (λ e. some (at_other z other ∙ e)))
    ];
    from = from_there;
    rising = rising_there;
    level = level_there;
    done = done_there;
    room =
        omega (
          arith,
          long,
          s.room,
          one_fewer table y next low_y none (λ e. omega (arith, e, short_next, left, few_listed, few)),
        );
  }

  -- the neighbours that the search has passed stay within reach
  pub reached_stays : (entries : List (ℕ × First)) (place : ℕ) → HasReached table x entries place
      → HasReached after x entries place
  reached_stays entries place reached k e lt inward =
      let z = (get_or entries k e).0 in
      elim (cases_eq z y) [
        | inl is ↦ let here : slice_index after z ≡ next = rw is at_y in omega (arith, here, at_x)
        | inr other ↦ omega (arith, at_other z other, at_x, reached k e lt inward)
      ]

-- one more entry of the row has been passed
pub reached_more : (table : List ℕ) (x : ℕ) (row : List (ℕ × First)) (place : ℕ) (e : ℕ × First)
    → HasReached table x row place → place < length row
    → ((get_or row place e).1 ≡ Inward → slice_index table (get_or row place e).0 ≤ slice_index table x + 1)
    → HasReached table x row (place + 1)
reached_more table x row place e reached l here k d lt inward = elim (cases_lt k place) [
  | inl less ↦ reached k d less inward
  | inr past ↦
      let at : get_or row k d ≡ get_or row place e = let k_is : k ≡ place = omega arith in
      rw k_is (get_or_default row place d e l) in
      rw at (here (rw at at inward))
]

-- the search has read a row to its end
pub row_read : {net : Network} {d : ℕ} {table list : List ℕ} (read x : ℕ) → IsNet net.nodes net.links
    → IsSearch net d table list read
    → read < length list → slice_index list read ≡ x
    → HasReached table x (row net.nodes net.links x) (length (row net.nodes net.links x))
    → IsSearch net d table list (read + 1)
row_read {net} {d} {table} {list} read x is_net s left at reached = record {
  one_each = s.one_each;
  node = s.node;
  home = s.home;
  inside = omega arith;
  below = s.below;
  short = s.short;
  listed = s.listed;
  from = s.from;
  rising = s.rising;
  level = λ k l more. omega (arith, s.level k l left, s.rising read (read + 1) (omega arith) more);
  done = λ k y lt points. elim (cases_lt k read) [
    | inl less ↦ s.done k y less points
    | inr past ↦
        let is : slice_index list k ≡ x = let k_is : k ≡ read = omega arith in rw k_is at in
        let (i, inside, e) =
        row_of_in net.nodes net.links x y is_net (subst (λ (q : ℕ). Points net.links y q) is points) in
        let Near : ℕ × First → Type 0 = λ q. q.1 ≡ Inward → slice_index table q.0 ≤ slice_index table x + 1 in
        let near : Near (y, Inward) = subst Near e (reached i (y, Inward) inside) in
        rw is (near refl)
  ];
  room = s.room;
}

-- at first only the destination is reached
pub begins : (net : Network) (d : ℕ) → net.nodes ≤ most_nodes → d < net.nodes
    → IsSearch net d (set (replicate net.nodes no_distance) d 0) (d ∷ []) 0
begins net d few low =
    let n = net.nodes in
    let old = replicate n no_distance in
    let table = set old d 0 in
    let size : length old ≡ n = length-replicate n no_distance in
    let home : slice_index table d ≡ 0 = get_or-set_same old d 0 0 (omega (arith, size)) in
    let others : (z : ℕ) → z < n → ¬ (z ≡ d) → slice_index table z ≡ no_distance = λ z l apart.
    get_or-set_other old d z 0 0 apart ∙ get_or-replicate n z no_distance 0 l in
    let only : (k : ℕ) → k < 1 → slice_index (d ∷ []) k ≡ d = λ k l. let zero_is : k ≡ 0 = omega arith in
    rw zero_is refl in
    record {
      one_each = length-set old d 0 ∙ size;
      node = low;
      home = home;
      inside = omega arith;
      below = λ k l. rw (only k l) low;
      short = λ k l. rw (only k l, home) (omega arith);
      listed =
          λ z l some. elim (cases_eq z d)
          [ inl e ↦ rw e (0, omega arith, refl) | inr apart ↦ absurd (some (others z l apart)) ];
      from = λ z l some apart. absurd (some (others z l apart));
      rising = λ i j le l. rw (only i (omega (arith, le, l)), only j l) (omega arith);
      level = λ k l _. rw (only k l) (omega arith);
      done = λ k y lt. absurd (omega arith);
      room = omega (
        arith,
        count_by-le-length (λ number. eqb number no_distance) old,
        one_fewer old d 0 (omega (arith, size))
            (get_or-replicate n d no_distance 0 low) (λ e. omega (arith, e)),
        size,
      );
    }

-- when all rows have been read, all numbers agree
pub all_reached : {net : Network} {d : ℕ} {table list : List ℕ} (read : ℕ) → IsNet net.nodes net.links
    → net.nodes ≤ most_nodes
    → IsSearch net d table list read → length list ≤ read → AllAgree net.nodes net.links d table
all_reached {net} {d} {table} {list} read is_net few s end =
    let low : (x : ℕ) → x < net.nodes → slice_index table x ≢ no_distance → slice_index table x ≤ net.nodes =
    λ x l some.
    let (k, inside, e) = s.listed x l some in
    let is : slice_index list k ≡ x = get_or_default list k 0 x inside ∙ e in
    let close : slice_index table x ≤ k = subst (λ (q : ℕ). slice_index table q ≤ k) is (s.short k inside) in
    omega (arith, close, inside, s.room) in
    let small : IsSmall net.nodes table = λ x. elim (cases_lt x net.nodes) [
      | inl l ↦ elim (cases_eq (slice_index table x) no_distance) [ inl e ↦ inl e | inr some ↦ inr (low x l some) ]
      | inr past ↦ inr (omega (arith, get_or_past table x 0 (omega (arith, past, s.one_each))))
    ] in
    record {
      one_each = s.one_each;
      few = few;
      is_net = is_net;
      small = small;
      each = λ x l. record {
        home = λ e. rw e s.home;
        near = λ apart w points.
            let low_w = (link_below net.nodes net.links x w is_net points).1 in
            elim (cases_eq (slice_index table w) no_distance) [
              | inl none ↦ ⊎_elim (λ e. omega (arith, none, e)) (λ le. omega (arith, none, le, few)) (small x)
              | inr some ↦
                  let (k, inside, e) = s.listed w low_w some in
                  let is : slice_index list k ≡ w = get_or_default list k 0 w inside ∙ e in
                  let points_there : Points net.links x (slice_index list k) = rw is points in
                  let near : slice_index table x ≤ slice_index table w + 1 =
                  subst (λ (q : ℕ). slice_index table x ≤ slice_index table q + 1) is (s.done k x (omega (
                    arith,
                    inside,
                    end,
                  )) points_there) in
                  omega (arith, near, low w low_w some, few)
            ];
        from = λ apart some. s.from x l some apart;
      };
    }

-- the search passes one more entry of the row that it reads
module _ {net : Network} {before first table list : List ℕ} (d x read : ℕ) (entries : List (ℕ
    × First)) (place : ℕ) (is_net : IsNet net.nodes net.links)
    (few : net.nodes ≤ most_nodes) (begun : IsSearch net d before first read) (entries_are : entries
    ≡ row net.nodes net.links x)
    (inside : place < length entries) (reading : IsReading net before first x read entries place table list) where
  abbrev entry : ℕ × First
  entry = get_or entries place (0, Outward)

  -- some node has no distance yet, so there is room for it in the list
  pub has_room : (y : ℕ) → y < net.nodes → slice_index table y ≡ no_distance → length list < net.nodes
  has_room y low none =
      let s = reading.search d begun in
      let one =
      one_passes (λ number. eqb number no_distance) table y 0 (omega (arith, low, s.one_each)) (rw none refl) in
      omega (arith, one, s.room)

  -- if it reaches the neighbour
  pub reading_reached : (next : ℕ) → next ≡ slice_index before x + 1 → entry.1 ≡ Inward
      → slice_index table entry.0 ≡ no_distance
      → IsReading net before first x read entries (place + 1) (set table entry.0 next) (list ++ entry.0 ∷ [])
  reading_reached next is_next inward none =
      let y = entry.0 in
      let s = reading.search d begun in
      let link : Points net.links y x =
      entry_leads Inward net.nodes net.links x entries place (0, Outward) entries_are inside inward in
      let is : next ≡ slice_index table x + 1 = omega (arith, is_next, reading.same) in
      let goes_on : (c : ℕ) → IsSearch net c before first read
      → IsSearch net c (set table y (slice_index table x + 1)) (list ++ y ∷ []) read = λ c t.
      reaches read x y is_net few (reading.search c t) reading.left reading.here link none in
      let apart : x ≢ y = λ e. let far : slice_index table x ≡ no_distance = rw e none in
      let close : slice_index table x ≤ read =
      subst (λ (z : ℕ). slice_index table z ≤ read) reading.here (s.short read reading.left) in
      omega (arith, far, close, reading.left, s.room, few) in
      rw is record {
        one_each = length-set table y (slice_index table x + 1) ∙ reading.one_each;
        left = omega (arith, length_push list y, reading.left);
        here = get_or_append_left list (y ∷ []) 0 read reading.left ∙ reading.here;
        same = get_or-set_other table y x (slice_index table x + 1) 0 apart ∙ reading.same;
        search = goes_on;
        reached = reached_more (set table y (slice_index table x + 1)) x entries place (0, Outward)
            (reached_stays read x y is_net few s reading.left reading.here link none entries place reading.reached)
            inside
            (λ _. omega (
              arith,
              get_or-set_same table y (slice_index table x + 1) 0 (omega (
                arith,
                (link_below net.nodes net.links y x is_net link).0,
                s.one_each,
              )),
              get_or-set_other table y x (slice_index table x + 1) 0 apart,
            ));
      }

  -- if the link points to the neighbour, or the neighbour was reached before
  pub reading_passed : (entry.1 ≡ Inward → slice_index table entry.0 ≢ no_distance)
      → IsReading net before first x read entries (place + 1) table list
  reading_passed known =
      let s = reading.search d begun in
      record {
        one_each = reading.one_each;
        left = reading.left;
        here = reading.here;
        same = reading.same;
        search = reading.search;
        reached = reached_more table x entries place (0, Outward) reading.reached inside (λ inward.
            let low = entry_below net.nodes net.links x entries place (0, Outward) entries_are inside in
            let (k, l, e) = s.listed entry.0 low (known inward) in
            let is : slice_index list k ≡ entry.0 = get_or_default list k 0 entry.0 l ∙ e in
            let level : slice_index table (slice_index list k) ≤ slice_index table x + 1 =
            subst (λ (q : ℕ). slice_index table (slice_index list k) ≤ slice_index table q
            + 1) reading.here (s.level k l reading.left) in
            subst (λ (q : ℕ). slice_index table q ≤ slice_index table x + 1) is level);
      }
