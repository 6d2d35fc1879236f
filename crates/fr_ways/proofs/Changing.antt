-- The pushes for one more node of a change, and room for them.
use Rattle.std.proofs.Common.{All, Bool, List, [], ap, append-nil, arith, cond, false, inl, inr, length, length-append}
use Rattle.std.proofs.Common.{map, refl, subst, suc, sym, take, true, zero, ℕ}
use Rattle.std.proofs.Common.{◌++◌, ◌+◌, ◌<◌, ◌∙◌, ◌∷◌, ◌≡◌, ◌≢◌, ◌≤◌}
use Rattle.std.specs.List.{concat, filter, list_any, range_with_len}
use Rattle.std.specs.Prelude.{nat_lt, not, ◌==◌, ◌&&◌}
use Rattle.std.proofs.lemmas.Bool.{cases_Bool, cases_eq, cases_lt, false≢true, le-ltb, lt-ltb, ne_eqb}
use Rattle.std.proofs.lemmas.List.{length-map, map-append}
use Rattle.std.proofs.lemmas.List.Elements.{Contains-get_or}
use Rattle.std.proofs.lemmas.List.Folds.{concat-append}
use Rattle.std.proofs.lemmas.List.FromFn.{length-range_with_len}
use Rattle.std.proofs.lemmas.List.Sums.{count_by-le-length, length-filter}
use Rattle.fr_ways.specs.Changes.{IsNotedTo, MayNote, Noted}
use Rattle.fr_ways.specs.ChangesInside.{noted_in}
use Rattle.fr_ways.specs.Held.{all_ways}
use Rattle.fr_ways.specs.Phases.{differs, empties, grows, growths, is_empty, is_way, kept, loses, sheds, shrinks}
use Rattle.fr_ways.specs.Phases.{shrunk}
use Rattle.fr_ways.specs.Ways.{ways}
use Rattle.fr_ways.specs.declared.changes.WayChanges.TheInside.{Inside}
use Rattle.fr_ways.proofs.Holding.{list_seconds, with_list}
use Rattle.fr_ways.proofs.Planning.{differs_no, differs_yes, empties_none, filter_range, map_cond, map_passed}
use Rattle.fr_ways.proofs.Rows.{take_fits}
use Rattle.fr_ways.proofs.Shrinking.{same_loses, shrunk_loser, shrunk_other}

-- how many there are

-- each node is in one part at most
parts_fit : (p q : ℕ → Bool) → ((x : ℕ) → p x ≡ true → q x ≡ false) → (xs : List ℕ)
    → length (filter p xs) + length (filter q xs) ≤ length xs
parts_fit p q apart [] = omega arith
parts_fit p q apart (x ∷ xs) =
    let rest = parts_fit p q apart xs in
    elim (cases_Bool (p x)) [
      | inl t ↦ rw (t, apart x t) (omega (arith, rest))
      | inr f ↦ elim (cases_Bool (q x)) [
        | inl t ↦ rw (f, t) (omega (arith, rest))
        | inr g ↦ rw (f, g) (omega (arith, rest))
      ]
    ]

-- a filter keeps no more than there is
filter_fits : (p : ℕ → Bool) (xs : List ℕ) → length (filter p xs) ≤ length xs
filter_fits p xs = omega (arith, length-filter p xs, count_by-le-length p xs)

-- and all of it, if it keeps as many
filter_all : (p : ℕ → Bool) (xs : List ℕ) → length (filter p xs) ≡ length xs → filter p xs ≡ xs
filter_all p [] long = refl
filter_all p (x ∷ xs) long = elim (cases_Bool (p x)) [
  | inl t ↦
      let is : filter p (x ∷ xs) ≡ x ∷ filter p xs = ap (λ (b : Bool). cond b (x ∷ filter p xs) (filter p xs)) t in
      is ∙ ap (λ (ys : List ℕ). x ∷ ys) (filter_all p xs (omega (arith, ap length is, long)))
  | inr f ↦
      let is : filter p (x ∷ xs) ≡ filter p xs = ap (λ (b : Bool). cond b (x ∷ filter p xs) (filter p xs)) f in
      absurd (omega (arith, ap length is, long, filter_fits p xs))
]

-- the ways of the first nodes of a table
pub take_ways : (table : List (List ℕ)) (x : ℕ)
    → length (concat (take (suc x) table)) ≡ length (concat (take x table)) + length (ways table x)
take_ways [] zero = refl
take_ways [] (suc x) = refl
take_ways (row ∷ rows) zero = omega (arith, length-append row [])
take_ways (row ∷ rows) (suc x) = omega (
  arith,
  take_ways rows x,
  length-append row (concat (take (suc x) rows)),
  length-append row (concat (take x rows)),
)

one_fits : (f : ℕ → List ℕ) (x : ℕ) (b : Bool) → length (concat (map f (cond b (x ∷ []) []))) ≤ length (f x)
one_fits f x true = omega (arith, length-append (f x) [])
one_fits f x false = omega arith

-- lists for nodes fit where the ways of these nodes do
module _ (table : List (List ℕ)) (p : ℕ → Bool) (f : ℕ → List ℕ)
    (fits : (y : ℕ) → length (f y) ≤ length (ways table y)) where
  lists_fit : (x : ℕ) → length (concat (map f (filter p (range_with_len 0 x)))) ≤ length (concat (take x table))
  lists_fit zero = omega arith
  lists_fit (suc x) =
      let next : x + 1 ≡ suc x = omega arith in
      let before = filter p (range_with_len 0 x) in
      let here = cond (p x) (x ∷ []) [] in
      let more : concat (map f (filter p (range_with_len 0 (x + 1)))) ≡ concat (map f before) ++ concat (map f here) =
      ap (λ (xs : List ℕ). concat (map f xs)) (filter_range p x)
      ∙ (ap concat (map-append f before here) ∙ concat-append (map f before) (map f here)) in
      let both : length (concat (map f (filter p (range_with_len 0 (x + 1))))) ≤ length (concat (take (suc x) table)) =
      omega (
        arith,
        ap length more,
        length-append (concat (map f before)) (concat (map f here)),
        lists_fit x,
        one_fits f x (p x),
        fits x,
        take_ways table x,
      ) in
      subst (λ (k : ℕ). length (concat (map f (filter p (range_with_len 0 k)))) ≤ length (concat (take (suc x) table)))
      next both

  pairs_fit : (x : ℕ)
      → length (all_ways (map (with_list f) (filter p (range_with_len 0 x)))) ≤ length (concat (take x table))
  pairs_fit x = rw (list_seconds f (filter p (range_with_len 0 x))) (lists_fit x)

-- there is room for one more push in each phase
pub record HasPlaces (new : List ℕ) (noted : Noted) : Type 0 where
  pub shrink : length noted.shrink + length noted.emptied < noted.nodes
  pub grow : length noted.grow < noted.nodes
  pub shrink_ways : length new + length (all_ways noted.shrink) ≤ noted.ways
  pub grow_ways : length new + length (all_ways noted.grow) ≤ noted.ways
  pub range : All (λ (y : ℕ). y < noted.nodes) new

one_part : (a b : Bool) → (a && not b) ≡ true → (a && b) ≡ false
one_part true true t = absurd (false≢true t)
one_part true false t = refl
one_part false b t = refl

pub few_noted : (before after : List (List ℕ)) (x : ℕ) (noted : Noted) → IsNotedTo before after x noted
    → length noted.shrink + length noted.emptied ≤ x
few_noted before after x noted is =
    let range = range_with_len 0 x in
    omega (
      arith,
      parts_fit (sheds before after) (empties before after)
          (λ y t. one_part (loses before after y) (is_empty (kept before after y)) t) range,
      length-range_with_len 0 x,
      ap length is.shrink,
      length-map (filter (sheds before after) range) (with_list (kept before after)),
      ap length is.emptied,
    )

has_places : (before after : List (List ℕ)) (x : ℕ) (old new : List ℕ) (noted : Noted)
    → MayNote before after x old new noted → HasPlaces new noted
has_places before after x old new noted may =
    let range = range_with_len 0 x in
    let long = length-range_with_len 0 x in
    let total : length (concat (take x after)) + length new ≤ length (concat after) =
    omega (arith, take_ways after x, take_fits after (suc x), ap length may.ways_after) in
    record {
      shrink = omega (arith, few_noted before after x noted may.below, may.inside, may.room.nodes);
      grow = omega (
        arith,
        filter_fits (grows before after) range,
        long,
        ap length may.below.grow,
        length-map (filter (grows before after) range) (with_list (ways after)),
        may.inside,
        may.room.nodes,
      );
      shrink_ways = omega (
        arith,
        pairs_fit after (sheds before after) (kept before after)
            (λ y. filter_fits (is_way (ways before y)) (ways after y)) x,
        ap (λ (ps : List (ℕ × List ℕ)). length (all_ways ps)) may.below.shrink,
        total,
        may.room.ways,
      );
      grow_ways = omega (
        arith,
        pairs_fit after (grows before after) (ways after) (λ y. omega arith) x,
        ap (λ (ps : List (ℕ × List ℕ)). length (all_ways ps)) may.below.grow,
        total,
        may.room.ways,
      );
      range = rw (← may.ways_after) (λ k d low.
          omega (arith, may.range x _ (Contains-get_or (ways after x) k d low), may.room.nodes));
    }

pub inside_places : (s : Inside) (value : Noted) (x : ℕ) (old new : List ℕ) → noted_in s ≡ value
    → (before after : List (List ℕ)) × MayNote before after x old new value → HasPlaces new (noted_in s)
inside_places s value x old new view (before, after, may) =
    subst (HasPlaces new) (sym view) (has_places before after x old new value may)

-- the pushes for one more node

pairs_more : (p : ℕ → Bool) (f : ℕ → List ℕ) (x : ℕ)
    → map (with_list f) (filter p (range_with_len 0 (x + 1)))
    ≡ map (with_list f) (filter p (range_with_len 0 x)) ++ cond {A = List (ℕ × List ℕ)} (p x) ((x, f x) ∷ []) []
pairs_more p f x =
    let pair = with_list f in
    let before = filter p (range_with_len 0 x) in
    ap (map pair) (filter_range p x)
    ∙ (map-append pair before (cond (p x) (x ∷ []) [])
    ∙ ap (λ (ps : List (ℕ × List ℕ)). map pair before ++ ps) (map_cond pair x (p x)))

module _ (before after : List (List ℕ)) (x : ℕ) (was now : Noted) (is : IsNotedTo before after x was) where
  noted_more : now.shrink ≡ was.shrink ++ cond {A = List (ℕ × List ℕ)} (sheds before after x)
      ((x, kept before after x) ∷ []) []
      → now.emptied ≡ was.emptied ++ cond (empties before after x) (x ∷ []) []
      → now.grow ≡ was.grow ++ cond {A = List (ℕ × List ℕ)} (grows before after x) ((x, ways after x) ∷ []) []
      → IsNotedTo before after (x + 1) now
  noted_more shrink emptied grow = record {
    shrink = shrink
        ∙ (ap (λ (ps : List (ℕ × List ℕ)). ps
        ++ cond {A = List (ℕ × List ℕ)} (sheds before after x) ((x, kept before after x) ∷ []) []) is.shrink
        ∙ sym (pairs_more (sheds before after) (kept before after) x));
    emptied = emptied ∙ (ap (λ (ys : List ℕ). ys ++ cond (empties before after x) (x ∷ []) []) is.emptied
        ∙ sym (filter_range (empties before after) x));
    grow = grow
        ∙ (ap (λ (ps : List (ℕ × List ℕ)). ps
        ++ cond {A = List (ℕ × List ℕ)} (grows before after x) ((x, ways after x) ∷ []) []) is.grow
        ∙ sym (pairs_more (grows before after) (ways after) x));
  }

-- the tests of a kept list by its length
empty_test : (list : List ℕ) → (length list == 0) ≡ is_empty list
empty_test [] = refl
empty_test (y ∷ ys) = ne_eqb (length (y ∷ ys)) 0 (λ e. absurd (omega (arith, e)))

fewer_test : (p : ℕ → Bool) (xs : List ℕ) → nat_lt (length (filter p xs)) (length xs) ≡ differs (filter p xs) xs
fewer_test p xs = elim (cases_lt (length (filter p xs)) (length xs)) [
  | inl low ↦ lt-ltb (length (filter p xs)) (length xs) low
      ∙ sym (differs_yes (filter p xs) xs (λ e. omega (arith, low, ap length e)))
  | inr high ↦ le-ltb (length (filter p xs)) (length xs) high
      ∙ sym (differs_no (filter p xs) xs (filter_all p xs (omega (arith, high, filter_fits p xs))))
]

-- what the next node adds
module _ (before after : List (List ℕ)) (x : ℕ) (old new : List ℕ) (was now : Noted)
    (may : MayNote before after x old new was) where
  -- a node that loses ways, and keeps so many
  pub noted_loser : (count : ℕ) → list_any (λ y. not (is_way new y)) old ≡ true
      → count ≡ length (filter (is_way old) new)
      → now.shrink ≡ was.shrink ++ cond {A = List (ℕ × List ℕ)} (not (is_empty (filter (is_way old) new)))
      ((x, filter (is_way old) new) ∷ []) []
      → now.emptied ≡ was.emptied ++ cond (count == 0) (x ∷ []) []
      → now.grow ≡ was.grow ++ cond {A = List (ℕ × List ℕ)} (nat_lt count (length new)) ((x, new) ∷ []) []
      → IsNotedTo before after (x + 1) now
  noted_loser count lost is shrink emptied grow =
      let some : loses before after x ≡ true = rw (may.ways_before, may.ways_after) lost in
      let keeps : kept before after x ≡ filter (is_way old) new = rw (may.ways_before, may.ways_after) refl in
      let none : (count == 0) ≡ is_empty (filter (is_way old) new) =
      ap (λ (n : ℕ). n == 0) is ∙ empty_test (filter (is_way old) new) in
      let fewer : nat_lt count (length new) ≡ differs (filter (is_way old) new) new =
      ap (λ (n : ℕ). nat_lt n (length new)) is ∙ fewer_test (is_way old) new in
      noted_more before after x was now may.below
      (rw (some, keeps) shrink)
      (rw (some, keeps, ← none) emptied)
      (rw (shrunk_loser before after x some, keeps, may.ways_after, ← fewer) grow)

  -- any other node whose list has changed
  pub noted_other : list_any (λ y. not (is_way new y)) old ≡ false → old ≢ new → now.shrink ≡ was.shrink
      → now.emptied ≡ was.emptied → now.grow ≡ was.grow ++ (x, new) ∷ [] → IsNotedTo before after (x + 1) now
  noted_other lost apart shrink emptied grow =
      let none : loses before after x ≡ false = rw (may.ways_before, may.ways_after) lost in
      noted_more before after x was now may.below
      (rw (none, append-nil was.shrink) shrink)
      (rw (none, append-nil was.emptied) emptied)
      (rw (shrunk_other before after x none, may.ways_before, may.ways_after, differs_yes old new apart) grow)

-- a node that has the same ways
pub noted_same : (before after : List (List ℕ)) (x : ℕ) (noted : Noted) → ways before x ≡ ways after x
    → IsNotedTo before after x noted → IsNotedTo before after (x + 1) noted
noted_same before after x noted same is =
    let none : loses before after x ≡ false = same_loses before after x same in
    let stays : grows before after x ≡ false =
    differs_no (shrunk before after x) (ways after x) (shrunk_other before after x none ∙ same) in
    noted_more before after x noted noted is
    (rw (none, append-nil noted.shrink) refl)
    (rw (none, append-nil noted.emptied) refl)
    (rw (stays, append-nil noted.grow) refl)

-- so only nodes whose lists have changed need be noted
pub noted_on : (before after : List (List ℕ)) (x z : ℕ) (noted : Noted) → IsNotedTo before after x noted → x ≤ z
    → ((y : ℕ) → x ≤ y → y < z → ways before y ≡ ways after y) → IsNotedTo before after z noted
noted_on before after x zero noted is up same =
    let here : x ≡ 0 = omega (arith, up) in
    subst (λ (k : ℕ). IsNotedTo before after k noted) here is
noted_on before after x (suc z) noted is up same = elim (cases_eq x (suc z)) [
  | inl e ↦ subst (λ (k : ℕ). IsNotedTo before after k noted) e is
  | inr apart ↦
      let low : x ≤ z = omega (arith, up, apart) in
      let next : z + 1 ≡ suc z = omega arith in
      let below = noted_on before after x z noted is low (λ y from to. same y from (omega (arith, to))) in
      subst (λ (k : ℕ). IsNotedTo before after k noted) next
      (noted_same before after z noted (same z low (omega arith)) below)
]

-- the emptied nodes follow
pub noted_whole : (before after : List (List ℕ)) (noted : Noted) (shrink : List (ℕ × List ℕ))
    → IsNotedTo before after (length after) noted
    → shrink ≡ noted.shrink ++ map (with_list (λ (x : ℕ). [])) noted.emptied → shrink ≡ shrinks before after
noted_whole before after noted shrink is more =
    let nodes = range_with_len 0 (length after) in
    let pair = with_list (kept before after) in
    let bare = with_list (λ (x : ℕ). []) in
    let first = filter (sheds before after) nodes in
    let last = filter (empties before after) nodes in
    more
    ∙ (ap (λ (ps : List (ℕ × List ℕ)). ps ++ map bare noted.emptied) is.shrink
    ∙ (ap (λ (xs : List ℕ). map pair first ++ map bare xs) is.emptied
    ∙ (ap (λ (ps : List (ℕ × List ℕ)). map pair first ++ ps)
    (map_passed bare pair (empties before after)
    (λ x t. ap (λ (list : List ℕ). with_list (λ (y : ℕ). list) x) (sym (empties_none before after x t))) nodes)
    ∙ sym (map-append pair first last))))

-- both phases together

no_ways : (xs : List ℕ) → concat (map (λ (x : ℕ). []) xs) ≡ []
no_ways [] = refl
no_ways (x ∷ xs) = no_ways xs

module _ (before after : List (List ℕ)) where
  pub shrinks_short : length (shrinks before after) ≤ length after
  shrinks_short =
      let nodes = range_with_len 0 (length after) in
      let first = filter (sheds before after) nodes in
      let last = filter (empties before after) nodes in
      omega (
        arith,
        length-map (first ++ last) (with_list (kept before after)),
        length-append first last,
        parts_fit (sheds before after) (empties before after)
            (λ y t. one_part (loses before after y) (is_empty (kept before after y)) t) nodes,
        length-range_with_len 0 (length after),
      )

  pub growths_short : length (growths before after) ≤ length after
  growths_short =
      let nodes = range_with_len 0 (length after) in
      omega (
        arith,
        length-map (filter (grows before after) nodes) (with_list (ways after)),
        filter_fits (grows before after) nodes,
        length-range_with_len 0 (length after),
      )

  pub shrinks_fit : length (all_ways (shrinks before after)) ≤ length (concat after)
  shrinks_fit =
      let nodes = range_with_len 0 (length after) in
      let first = filter (sheds before after) nodes in
      let last = filter (empties before after) nodes in
      let list = kept before after in
      let parts : concat (map list (first ++ last)) ≡ concat (map list first) ++ concat (map list last) =
      ap concat (map-append list first last) ∙ concat-append (map list first) (map list last) in
      let none : concat (map list last) ≡ [] =
      ap concat (sym (map_passed (λ (x : ℕ). []) list (empties before after)
      (λ x t. sym (empties_none before after x t)) nodes)) ∙ no_ways last in
      omega (
        arith,
        ap (λ (t : List (List ℕ)). length (concat t)) (list_seconds list (first ++ last)),
        ap length parts,
        length-append (concat (map list first)) (concat (map list last)),
        ap length none,
        lists_fit after (sheds before after) list
            (λ y. filter_fits (is_way (ways before y)) (ways after y)) (length after),
        take_fits after (length after),
      )

  pub growths_fit : length (all_ways (growths before after)) ≤ length (concat after)
  growths_fit =
      let nodes = range_with_len 0 (length after) in omega (
        arith,
        ap (λ (t : List (List ℕ)). length (concat t)) (list_seconds (ways after) (filter (grows before after) nodes)),
        lists_fit after (grows before after) (ways after) (λ y. omega arith) (length after),
        take_fits after (length after),
      )
