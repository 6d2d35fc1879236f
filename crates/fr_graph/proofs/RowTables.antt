-- Rows in one list, each between its start and its end. One of them changes in place.
use Rattle.std.proofs.Common.{Bool, List, [], ap, arith, count_by, drop, eq-eqb, eqb, false, get_or, inl, inr, length, map, ne_eqb, refl, set}
use Rattle.std.proofs.Common.{slice_range, subst, suc, sym, take, true, zero, ℕ, ◌+◌, ◌-◌, ◌<◌, ◌∙◌, ◌∷◌, ◌≡◌, ◌≢◌, ◌≤◌}
use Rattle.std.proofs.lemmas.Bool.{cases_eq, cases_lt}
use Rattle.std.proofs.lemmas.List.{get_or_past, get_or_read, get_or-set_other, get_or-set_same, length-set, same_lists, set-get_or, with_items_is}
use Rattle.std.proofs.lemmas.List.Edits.{length-between, length-insert, length-remove}
use Rattle.std.proofs.lemmas.List.FromFn.{get_or-map-range_with_len, length-map-range_with_len, sum_by-map-range_with_len_more}
use Rattle.std.proofs.lemmas.List.Sums.{count_by-le-length, get_or-le-sum_by, sum_by-set}
use Rattle.std.proofs.lemmas.Slice.{between-put_mid, between_is, drop-put_mid, take-put_mid_below}
use Rattle.std.specs.List.{insert, range_with_len, remove}
use Rattle.std.specs.Global.{Vec}
use Rattle.std.specs.Vec.{with_items}
use mir.Val.{bool_byte}
use borrow.Rule.Slice.PartMut.{put_mid}
use Rattle.fr_graph.proofs.Counting.{count-range_more, weigh}
use Rattle.fr_graph.proofs.Lists.{length_put, alike_below, range_inserted, range_removed}
use Rattle.fr_graph.specs.Tables.{ArePacked, HasRoomIn, IsTable, Table, end_of, has_none, place_between, places_of, room_between, room_of}
use Rattle.fr_graph.specs.Tables.{row_between, row_of, rows_in, start_of, table_of, with_row}
use Rattle.fr_graph.specs.declared.row_table.Place.{Place}
use Rattle.fr_graph.specs.declared.row_table.RowTable.TheInside.{Inside}
use Rattle.fr_graph.specs.declared.first.First.{First}

-- starts that never fall
pub starts_up : (start : ℕ → ℕ) (n : ℕ) → ((y : ℕ) → y < n → start y ≤ start (y + 1)) → (x k : ℕ) → x ≤ k → k ≤ n → start x ≤ start k
starts_up start n up x zero le high = let e : x ≡ 0 = omega arith in rw e (omega arith)
starts_up start n up x (suc k) le high =
    elim (cases_eq x (suc k)) [
      | inl e ↦ rw e (omega arith)
      | inr ne ↦
          let more : k + 1 ≡ suc k = omega arith in
          let step : start k ≤ start (suc k) = rw more at (up k (omega arith)) in
          omega (arith, step, starts_up start n up x k (omega (arith, ne)) (omega arith))
    ]

-- a test as a number
pub bit_is : (b : Bool) → bool_byte b ≡ weigh b
bit_is true = refl
bit_is false = refl

pub weigh-le : (b : Bool) → weigh b ≤ 1
weigh-le true = omega arith
weigh-le false = omega arith

-- no place of a row
abbrev pub nowhere : Place
nowhere = record { start = 0; end = 0 }

pub length_rows : (t : Inside) → length (table_of t).rows ≡ rows_in t
length_rows t = length-map-range_with_len (row_between t) 0 (rows_in t)

pub row_shown : (t : Inside) (x : ℕ) → x < rows_in t → row_of (table_of t) x ≡ row_between t x
row_shown t x lt = get_or-map-range_with_len (row_between t) 0 (rows_in t) x x [] lt (omega arith)

pub room_shown : (t : Inside) (x : ℕ) → x < rows_in t → room_of (table_of t) x ≡ room_between t x
room_shown t x lt = get_or-map-range_with_len (room_between t) 0 (rows_in t) x x 0 lt (omega arith)

-- the place of a row in the table
pub record IsRowAt (t : Inside) (table : Table) (x : ℕ) : Type 0 where
  pub has : x < rows_in t
  pub next : x + 1 < length t.places.items
  pub low : start_of t x ≤ end_of t x
  pub high : end_of t x ≤ start_of t (x + 1)
  pub inside : start_of t (x + 1) ≤ length t.entries.items
  pub is_row : row_between t x ≡ row_of table x
  pub long : length (row_of table x) ≡ end_of t x - start_of t x
  pub room : room_of table x ≡ start_of t (x + 1) - start_of t x

pub row_at : (t : Inside) (table : Table) (x : ℕ) → IsTable t → table_of t ≡ table → x < length table.rows → IsRowAt t table x
row_at t table x is view lt =
    let has : x < rows_in t = omega (arith, lt, ap (λ (v : Table). length v.rows) view, length_rows t) in
    let low = is.low x has in
    let high = is.high x has in
    let inside = is.inside (x + 1) in
    let is_row : row_between t x ≡ row_of table x = sym (row_shown t x has) ∙ ap (λ (v : Table). row_of v x) view in
    record {
      has = has;
      next = omega (arith, has);
      low = low;
      high = high;
      inside = inside;
      is_row = is_row;
      long = ap length (sym is_row) ∙ length-between t.entries.items (start_of t x) (end_of t x) (omega (arith, high, inside));
      room = ap (λ (v : Table). room_of v x) (sym view) ∙ room_shown t x has;
    }

-- only later rows are after a row
pub starts_rise : (t : Inside) → IsTable t → (x y : ℕ) → x ≤ y → y ≤ rows_in t → start_of t x ≤ start_of t y
starts_rise t is = starts_up (start_of t) (rows_in t) (λ y l. omega (arith, is.low y l, is.high y l))

-- fields in which only those of the row of x were written: this part from the place `at` on, which stays in the room of
-- x, and the end of the row
pub record IsWritten (t after : Inside) (x at end : ℕ) (part : List (ℕ × First)) : Type 0 where
  pub places : after.places.items ≡ set t.places.items x (record { start = start_of t x; end = end })
  pub entries : after.entries.items ≡ put_mid at (length part) t.entries.items part
  pub behind_start : start_of t x ≤ at
  pub in_room : at + length part ≤ start_of t (x + 1)
  pub low : start_of t x ≤ end
  pub high : end ≤ start_of t (x + 1)

module _ (t after : Inside) (x at end : ℕ) (part : List (ℕ × First)) (is : IsTable t) (lt : x < rows_in t) (w : IsWritten t after x at end part) where
  abbrev new_place : Place
  new_place = record { start = start_of t x; end = end }

  pub as_many : rows_in after ≡ rows_in t
  as_many = ap (λ (ps : List Place). length ps - 1) w.places ∙ ap (λ n. n - 1) (length-set t.places.items x new_place)

  place_written : get_or after.places.items x nowhere ≡ new_place
  place_written = ap (λ (ps : List Place). get_or ps x nowhere) w.places ∙ get_or-set_same t.places.items x new_place nowhere (omega (arith, lt))

  place_stays : (y : ℕ) → y ≢ x → get_or after.places.items y nowhere ≡ get_or t.places.items y nowhere
  place_stays y ne = ap (λ (ps : List Place). get_or ps y nowhere) w.places ∙ get_or-set_other t.places.items x y new_place nowhere ne

  start_stays : (y : ℕ) → start_of after y ≡ start_of t y
  start_stays y = elim (cases_eq y x) [ inl e ↦ rw e (ap (λ (p : Place). p.start) place_written) | inr ne ↦ ap (λ (p : Place). p.start) (place_stays y ne) ]

  pub end_written : end_of after x ≡ end
  end_written = ap (λ (p : Place). p.end) place_written

  end_stays : (y : ℕ) → y ≢ x → end_of after y ≡ end_of t y
  end_stays y ne = ap (λ (p : Place). p.end) (place_stays y ne)

  size_stays : length after.entries.items ≡ length t.entries.items
  size_stays = ap length w.entries ∙ length_put at (length part) t.entries.items part (omega (arith, w.in_room, is.inside (x + 1))) refl

  row_stays : (y : ℕ) → y < rows_in t → y ≢ x → row_between after y ≡ row_between t y
  row_stays y l ne =
      let old = t.entries.items in
      let a = start_of t y in
      let b = end_of t y in
      let inside : at ≤ length old = omega (arith, w.in_room, is.inside (x + 1)) in
      let bounds : row_between after y ≡ slice_range (put_mid at (length part) old part) a b =
      ap (λ (es : List (ℕ × First)). slice_range es (start_of after y) (end_of after y)) w.entries
      ∙ ap (λ k. slice_range (put_mid at (length part) old part) k (end_of after y)) (start_stays y)
      ∙ ap (λ k. slice_range (put_mid at (length part) old part) a k) (end_stays y ne) in
      bounds ∙ elim (cases_lt y x) [
        | inl before ↦
            let up = starts_rise t is (y + 1) x (omega arith) (omega (arith, lt)) in
            between_is (put_mid at (length part) old part) a b
            ∙ ap (drop a) (take-put_mid_below at (length part) old part b (omega (arith, is.high y l, up, w.behind_start)) inside)
            ∙ sym (between_is old a b)
        | inr ge ↦
            let up = starts_rise t is (x + 1) y (omega (arith, ge, ne)) (omega (arith, l)) in
            ap (take (b - a)) (drop-put_mid at (length part) old part a (omega (arith, up, w.in_room)) inside refl)
      ]

  pub row_put : row_between after x ≡ slice_range (put_mid at (length part) t.entries.items part) (start_of t x) end
  row_put =
      ap (λ (es : List (ℕ × First)). slice_range es (start_of after x) (end_of after x)) w.entries
      ∙ ap (λ k. slice_range (put_mid at (length part) t.entries.items part) k (end_of after x)) (start_stays x)
      ∙ ap (λ k. slice_range (put_mid at (length part) t.entries.items part) (start_of t x) k) end_written

  rows_written : (row : List (ℕ × First)) → row_between after x ≡ row → (table_of after).rows ≡ set (table_of t).rows x row
  rows_written row here =
      let size : length (table_of after).rows ≡ length (set (table_of t).rows x row) =
      length_rows after ∙ as_many ∙ sym (length_rows t) ∙ sym (length-set (table_of t).rows x row) in
      same_lists (table_of after).rows (set (table_of t).rows x row) size (λ y d l.
      let many = as_many in
      let in_after : y < rows_in after = omega (arith, l, length_rows after) in
      let in_t : y < rows_in t = omega (arith, in_after, many) in
      get_or-map-range_with_len (row_between after) 0 (rows_in after) y y d in_after (omega arith) ∙ elim (cases_eq y x) [
        | inl e ↦ ap (row_between after) e ∙ here
            ∙ sym (ap (λ k. get_or (set (table_of t).rows x row) k d) e ∙ get_or-set_same (table_of t).rows x row d (omega (arith, lt, length_rows t)))
        | inr ne ↦ row_stays y in_t ne
            ∙ sym (get_or-set_other (table_of t).rows x y row d ne ∙ get_or-map-range_with_len (row_between t) 0 (rows_in t) y y d in_t (omega arith))
      ])

  rooms_stay : (table_of after).rooms ≡ (table_of t).rooms
  rooms_stay =
      alike_below (room_between after) (room_between t) (rows_in after)
      (λ y l. rw (start_stays (y + 1), start_stays y) refl) ∙ ap (λ n. map (room_between t) (range_with_len 0 n)) as_many

  -- the view has the new row in place of the old one
  pub table_written : (row : List (ℕ × First)) → row_between after x ≡ row → table_of after ≡ with_row (table_of t) x row
  table_written row here = let rows = rows_written row here in let rooms = rooms_stay in λ i. record { rows = rows i; rooms = rooms i }

  -- what held before still holds
  pub table_kept : (row : List (ℕ × First)) → row_between after x ≡ row
      → after.empty + weigh (has_none (row_between t x)) ≡ t.empty + weigh (has_none row) → IsTable after
  table_kept row here count =
      let many = as_many in
      let weight : List (ℕ × First) → ℕ = λ es. weigh (has_none es) in
      let old : weight (get_or (table_of t).rows x []) ≡ weight (row_between t x) = ap weight (row_shown t x lt) in
      let new : count_by has_none (table_of after).rows ≡ count_by has_none (set (table_of t).rows x row) = ap (count_by has_none) (rows_written row here) in
      let changed = sum_by-set weight (table_of t).rows x row [] (omega (arith, lt, length_rows t)) in
      record {
        some = omega (arith, lt, ap length w.places, length-set t.places.items x new_place);
        low = λ y l. elim (cases_eq y x) [
          | inl e ↦ rw e (omega (arith, start_stays x, end_written, w.low))
          | inr ne ↦ omega (arith, start_stays y, end_stays y ne, is.low y (omega (arith, l, many)))
        ];
        high = λ y l. elim (cases_eq y x) [
          | inl e ↦ rw e (omega (arith, start_stays (x + 1), end_written, w.high))
          | inr ne ↦ omega (arith, start_stays (y + 1), end_stays y ne, is.high y (omega (arith, l, many)))
        ];
        inside = λ y. omega (arith, start_stays y, is.inside y, size_stays);
        counted = omega (arith, count, is.counted, old, new, changed);
      }

-- what a call leaves that writes a part of the entries
pub part_put : {X : Type 0} (v : Vec X) (now part : List X) (at k : ℕ) → now ≡ v.items → length part ≡ k
    → at + k ≤ length v.items → (with_items v (put_mid at k now part)).items ≡ put_mid at (length part) v.items part
part_put v now part at k is long inside =
    let same : put_mid at k now part ≡ put_mid at (length part) v.items part = ap (λ xs. put_mid at k xs part) is
    ∙ ap (λ n. put_mid at n v.items part) (sym long) in
    with_items_is v (put_mid at k now part) (ap length same ∙ length_put at (length part) v.items part (omega (arith, inside, long)) refl ∙ sym v.ok.0) ∙ same

-- a row without entries ends where it starts
pub none_is : (es : List (ℕ × First)) → has_none es ≡ eqb (length es) 0
none_is [] = refl
none_is (e ∷ es) = sym (ne_eqb (length (e ∷ es)) 0 (λ q. omega (arith, q)))

pub none_by_length : (es fs : List (ℕ × First)) → length es ≡ length fs → has_none es ≡ has_none fs
none_by_length es fs same = none_is es ∙ ap (λ n. eqb n 0) same ∙ sym (none_is fs)

pub none_where : (es : List (ℕ × First)) (start end : ℕ) → start + length es ≡ end → has_none es ≡ eqb start end
none_where es start end long = none_is es ∙ elim (cases_eq start end) [
  | inl e ↦ eq-eqb (length es) 0 (omega (arith, e, long)) ∙ sym (eq-eqb start end e)
  | inr ne ↦ ne_eqb (length es) 0 (λ q. ne (omega (arith, q, long))) ∙ sym (ne_eqb start end ne)
]

-- an empty row is counted
pub none_counted : (t : Inside) (x : ℕ) → IsTable t → x < rows_in t → weigh (has_none (row_between t x)) ≤ t.empty
none_counted t x is lt =
    let weight : List (ℕ × First) → ℕ = λ es. weigh (has_none es) in
    let here : weight (row_of (table_of t) x) ≡ weight (row_between t x) = ap weight (row_shown t x lt) in
    omega (arith, get_or-le-sum_by weight (table_of t).rows x [] (omega (arith, lt, length_rows t)), here, is.counted)

-- with another row for x, the fields are those of the table with this row
pub record ShowsRowWritten (after : Inside) (table : Table) (x : ℕ) (row : List (ℕ × First)) : Type 0 where
  pub is : IsTable after
  pub shown : table_of after ≡ with_row table x row

row_shows : (t after : Inside) (table : Table) (x at end : ℕ) (part row : List (ℕ × First)) → IsTable t → table_of t ≡ table
    → x < length table.rows → IsWritten t after x at end part → row_between after x ≡ row
    → after.empty + weigh (has_none (row_between t x)) ≡ t.empty + weigh (has_none row) → ShowsRowWritten after table x row
row_shows t after table x at end part row is view lt w here count =
    let has = (row_at t table x is view lt).has in
    record {
      is = table_kept t after x at end part is has w row here count;
      shown = table_written t after x at end part is has w row here ∙ ap (λ v. with_row v x row) view;
    }

-- an entry was inserted in the row of x
pub entry_inserted : (t after : Inside) (table : Table) (x p : ℕ) (entry : ℕ × First) (part : List (ℕ × First)) → IsTable t
    → table_of t ≡ table → x < length table.rows → p ≤ length (row_of table x) → HasRoomIn table x
    → length part ≡ end_of t x + 1 - (start_of t x + p)
    → part ≡ take (end_of t x + 1 - (start_of t x + p)) (entry ∷ slice_range t.entries.items (start_of t x + p) (end_of t x + 1))
    → after.places.items ≡ set t.places.items x (record { start = start_of t x; end = end_of t x + 1 })
    → after.entries.items ≡ put_mid (start_of t x + p) (length part) t.entries.items part
    → after.empty + weigh (eqb (start_of t x) (end_of t x)) ≡ t.empty → ShowsRowWritten after table x (insert (row_of table x) p entry)
entry_inserted t after table x p entry part is view lt inside room long is_part places entries count =
    let s = start_of t x in
    let e = end_of t x in
    let row = row_of table x in
    let at = row_at t table x is view lt in
    let low : s + p ≤ e = omega (arith, inside, at.long, at.low) in
    let high : e < start_of t (x + 1) = omega (arith, room, at.long, at.room, at.low, at.high) in
    let w : IsWritten t after x (s + p) (e + 1) part = record {
      places = places;
      entries = entries;
      behind_start = omega arith;
      in_room = omega (arith, long, low, high);
      low = omega (arith, at.low);
      high = omega (arith, high);
    } in
    let here : row_between after x ≡ insert row p entry =
    row_put t after x (s + p) (e + 1) part is at.has w
    ∙ range_inserted t.entries.items part s p e entry low (omega (arith, high, at.inside)) long is_part ∙ ap (λ es. insert es p entry) at.is_row in
    let before : weigh (has_none (row_between t x)) ≡ weigh (eqb s e) =
    ap weigh (none_where (row_between t x) s e (omega (arith, ap length at.is_row, at.long, at.low))) in
    let more = length-insert row p entry inside in
    let now : weigh (has_none (insert row p entry)) ≡ 0 =
    ap weigh (none_is (insert row p entry) ∙ ne_eqb (length (insert row p entry)) 0 (λ q. omega (arith, q, more))) in
    row_shows t after table x (s + p) (e + 1) part (insert row p entry) is view lt w here (omega (arith, before, now, count))

-- an entry was removed from the row of x
pub entry_removed : (t after : Inside) (table : Table) (x p e : ℕ) (part : List (ℕ × First)) → IsTable t
    → table_of t ≡ table → x < length table.rows → p < length (row_of table x) → e + 1 ≡ end_of t x
    → length part ≡ e + 1 - (start_of t x + p) → take (e + 1 - (start_of t x + p) - 1) part ≡ drop 1 (slice_range t.entries.items (start_of t x + p) (e + 1))
    → after.places.items ≡ set t.places.items x (record { start = start_of t x; end = e })
    → after.entries.items ≡ put_mid (start_of t x + p) (length part) t.entries.items part
    → after.empty ≡ t.empty + weigh (eqb (start_of t x) e) → ShowsRowWritten after table x (remove (row_of table x) p)
entry_removed t after table x p e part is view lt inside last long is_part places entries count =
    let s = start_of t x in
    let row = row_of table x in
    let at = row_at t table x is view lt in
    let low : s + p ≤ e = omega (arith, inside, at.long, at.low, last) in
    let high : e < start_of t (x + 1) = omega (arith, at.high, last) in
    let w : IsWritten t after x (s + p) e part = record {
      places = places;
      entries = entries;
      behind_start = omega arith;
      in_room = omega (arith, long, low, high);
      low = omega (arith, low);
      high = omega (arith, high);
    } in
    let back : e + 1 - 1 ≡ e = omega arith in
    let new = put_mid (s + p) (length part) t.entries.items part in
    let here : row_between after x ≡ remove row p =
    row_put t after x (s + p) e part is at.has w
    ∙ ap (slice_range new s) (sym back)
    ∙ range_removed t.entries.items part s p (e + 1) (omega (arith, low)) (omega (arith, high, at.inside)) long is_part
    ∙ ap (λ k. remove (slice_range t.entries.items s k) p) last
    ∙ ap (λ es. remove es p) at.is_row in
    let some : ¬ (s ≡ end_of t x) = λ q. omega (arith, q, last, low) in
    let before : weigh (has_none (row_between t x)) ≡ 0 =
    ap weigh (none_where (row_between t x) s (end_of t x) (omega (arith, ap length at.is_row, at.long, at.low)) ∙ ne_eqb s (end_of t x) some) in
    let now : weigh (has_none (remove row p)) ≡ weigh (eqb s e) =
    ap weigh (none_where (remove row p) s e (omega (arith, length-remove row p inside, at.long, at.low, last, low))) in
    row_shows t after table x (s + p) e part (remove row p) is view lt w here (omega (arith, before, now, count))

-- no more rows are empty than there are rows
pub none_few : (t : Inside) → IsTable t → t.empty ≤ rows_in t
none_few t is = omega (arith, is.counted, count_by-le-length has_none (table_of t).rows, length_rows t)

-- the entries of the row of x were written
pub row_rewritten : (t after : Inside) (table : Table) (x : ℕ) (part : List (ℕ × First)) → IsTable t → table_of t ≡ table
    → x < length table.rows → length part ≡ length (row_of table x)
    → after.places.items ≡ t.places.items → after.entries.items ≡ put_mid (start_of t x) (length part) t.entries.items part
    → after.empty ≡ t.empty → ShowsRowWritten after table x part
row_rewritten t after table x part is view lt long places entries count =
    let s = start_of t x in
    let e = end_of t x in
    let at = row_at t table x is view lt in
    let w : IsWritten t after x s e part = record {
      places = places ∙ sym (set-get_or t.places.items x nowhere);
      entries = entries;
      behind_start = omega arith;
      in_room = omega (arith, long, at.long, at.low, at.high);
      low = at.low;
      high = at.high;
    } in
    let here : row_between after x ≡ part = row_put t after x s e part is at.has w
    ∙ between-put_mid s (length part) t.entries.items part e (omega (arith, at.low, at.high, at.inside)) (omega (arith, long, at.long)) in
    let same : weigh (has_none (row_between t x)) ≡ weigh (has_none part) = ap weigh (none_by_length (row_between t x) part (ap length at.is_row ∙ sym long)) in
    row_shows t after table x s e part part is view lt w here (omega (arith, same, count))

-- the part of the entries that was read is the row of x
pub record IsPart (t : Inside) (table : Table) (x i j : ℕ) (entries : List (ℕ × First)) : Type 0 where
  pub start : i ≡ start_of t x
  pub end : j ≡ end_of t x
  pub low : i ≤ j
  pub high : j ≤ length entries
  pub is_row : slice_range entries i j ≡ row_of table x
  pub long : length (row_of table x) ≡ j - i

pub start_read : (t : Inside) (x : ℕ) (place : Place) → x < length t.places.items → place ≡ get_or t.places.items x place → place.start ≡ start_of t x
start_read t x place lt read = ap (λ (p : Place). p.start) (get_or_read t.places.items x place lt read nowhere)

pub end_read : (t : Inside) (x : ℕ) (place : Place) → x < length t.places.items → place ≡ get_or t.places.items x place → place.end ≡ end_of t x
end_read t x place lt read = ap (λ (p : Place). p.end) (get_or_read t.places.items x place lt read nowhere)

pub part_at : (t : Inside) (table : Table) (x : ℕ) (place : Place) (entries : List (ℕ × First)) → IsTable t
    → table_of t ≡ table → x < length table.rows → place ≡ get_or t.places.items x place → entries ≡ t.entries.items
    → IsPart t table x place.start place.end entries
part_at t table x place entries is view lt read same =
    let at = row_at t table x is view lt in
    let start = start_read t x place (omega (arith, at.next)) read in
    let end = end_read t x place (omega (arith, at.next)) read in
    record {
      start = start;
      end = end;
      low = omega (arith, start, end, at.low);
      high = omega (arith, end, at.high, at.inside, ap length same);
      is_row = rw (same, start, end) at.is_row;
      long = omega (arith, at.long, start, end);
    }

-- after it is written with as many entries, they are the row of x
pub part_rewritten : (t : Inside) (table : Table) (x i j : ℕ) (entries new : List (ℕ × First)) → IsTable t
    → table_of t ≡ table → x < length table.rows → IsPart t table x i j entries → entries ≡ t.entries.items → length new ≡ length (row_of table x)
    → ShowsRowWritten (record { places = t.places; entries = with_items t.entries (put_mid i (j - i) entries new); empty = t.empty }) table x new
part_rewritten t table x i j entries new is view lt part same long =
    row_rewritten t (record {
      places = t.places;
      entries = with_items t.entries (put_mid i (j - i) entries new);
      empty =
          t.empty;
    }) table x new is view lt long refl
    (part_put t.entries entries new i (j - i) same (omega (arith, long, part.long))
    (omega (arith, part.low, part.high, ap length same)) ∙ ap (λ k. put_mid k (length new) t.entries.items new) part.start)
    refl

-- as many elements made from numbers pass as numbers do
count-map-range : {X : Type 0} (p : X → Bool) (q : ℕ → Bool) (f : ℕ → X) (n : ℕ) → ((x : ℕ) → x < n → p (f x) ≡ q x)
    → count_by p (map f (range_with_len 0 n)) ≡ count_by q (range_with_len 0 n)
count-map-range p q f zero same = refl
count-map-range {X} p q f (suc n) same =
    let weight : X → ℕ = λ x. weigh (p x) in
    let next : n + 1 ≡ suc n = omega arith in
    let here : weigh (p (f n)) ≡ weigh (q n) = ap weigh (same n (omega arith)) in
    let rest = count-map-range p q f n (λ x l. same x (omega arith)) in
    subst (λ k. count_by p (map f (range_with_len 0 k)) ≡ count_by q (range_with_len 0 k)) next
    (omega (arith, sum_by-map-range_with_len_more weight f 0 n n (omega arith), count-range_more q n, here, rest))

module _ (t : Inside) (starts : List ℕ) (packed : ArePacked starts t.entries.items) (places : t.places.items ≡ places_of starts) where
  pub packed_one_each : length starts ≡ length t.places.items
  packed_one_each = sym (ap length places ∙ length-map-range_with_len (place_between starts) 0 (length starts))

  place_is : (x : ℕ) → x < length starts → get_or t.places.items x nowhere ≡ place_between starts x
  place_is x l = ap (λ (ps : List Place). get_or ps x nowhere) places
      ∙ get_or-map-range_with_len (place_between starts) 0 (length starts) x x nowhere l (omega arith)

  start_is : (x : ℕ) → start_of t x ≡ get_or starts x 0
  start_is x = elim (cases_lt x (length starts)) [
    | inl l ↦ ap (λ (p : Place). p.start) (place_is x l)
    | inr past ↦ ap (λ (p : Place). p.start) (get_or_past t.places.items x nowhere (omega (arith, past, packed_one_each))) ∙ sym (get_or_past starts x 0 past)
  ]

  end_is : (x : ℕ) → x < length starts → end_of t x ≡ get_or starts (x + 1) 0
  end_is x l = ap (λ (p : Place). p.end) (place_is x l)

  -- starts of rows that follow each other without gaps make a table
  pub packed_row : (x : ℕ) → x + 1 < length starts → row_of (table_of t) x ≡ slice_range t.entries.items (get_or starts x 0) (get_or starts (x + 1) 0)
  packed_row x l = row_shown t x (omega (arith, l, packed_one_each)) ∙ rw (start_is x, end_is x (omega (arith, l))) refl

  pub packed_table : t.empty ≡ count_by (λ x. eqb (start_of t x) (end_of t x)) (range_with_len 0 (rows_in t)) → IsTable t
  packed_table count =
      let many = packed_one_each in
      let up : (x : ℕ) → x < rows_in t
      → start_of t x ≤ end_of t x = λ x l. omega (arith, start_is x, end_is x (omega (arith, l, many)), packed.rise x (omega (arith, l, many))) in
      let none : (x : ℕ) → x < rows_in t → has_none (row_between t x) ≡ eqb (start_of t x) (end_of t x) = λ x l.
      none_where (row_between t x) (start_of t x) (end_of t x)
      (omega (
        arith,
        up x l,
        length-between t.entries.items (start_of t x) (end_of t x)
            (omega (arith, end_is x (omega (arith, l, many)), packed.inside (x + 1))),
      )) in
      record {
        some = omega (arith, packed.some, many);
        low = up;
        high = λ x l. omega (arith, end_is x (omega (arith, l, many)), start_is (x + 1));
        inside = λ x. omega (arith, start_is x, packed.inside x);
        counted = count ∙ sym (count-map-range has_none (λ x. eqb (start_of t x) (end_of t x)) (row_between t) (rows_in t) none);
      }
