-- Rows laid out one after the other, each with room after it.
use Rattle.std.proofs.Common.{Bool, IsTrue, List, [], ap, arith, cond, count_by, get_or, inl, inr, length}
use Rattle.std.proofs.Common.{length-append, map, refl, set, sym, take}
use Rattle.std.proofs.Common.{ℕ, ◌++◌, ◌+◌, ◌<◌, ◌∙◌, ◌∷◌, ◌≡◌, ◌≤◌}
use Rattle.std.specs.List.{range_with_len}
use Rattle.std.proofs.lemmas.Bool.{cases_eq, cases_lt}
use Rattle.std.proofs.lemmas.List.{get_or-set_other, get_or-set_same, get_or_append_left, get_or_past, get_or_push}
use Rattle.std.proofs.lemmas.List.{length-set, length-take-le}
use Rattle.std.proofs.lemmas.List.{length_push, take_all, take_more}
use Rattle.std.proofs.lemmas.List.FromFn.{length-map-range_with_len, map-range_with_len_more}
use Rattle.std.proofs.lemmas.List.Sums.{sum_by-append}
use Rattle.fr_graph.proofs.Lists.{alike_below, part_before, part_behind}
use Rattle.fr_graph.proofs.RowTables.{length_rows, nowhere, starts_rise}
use Rattle.fr_graph.specs.Tables.{HasRoomIn, IsTable, KeepsRooms, Table, end_of, has_none, room_between, room_of}
use Rattle.fr_graph.specs.Tables.{row_between, row_of, rows_in}
use Rattle.fr_graph.specs.Tables.{start_of, table_of}
use Rattle.fr_graph.specs.declared.row_table.Place.{Place}
use Rattle.fr_graph.specs.declared.row_table.RowTable.TheInside.{Inside}
use Rattle.fr_graph.specs.declared.first.First.{First}

-- where a row starts that is laid out after the others
abbrev pub start_behind : Inside → ℕ
start_behind t = start_of t (rows_in t)

-- the fields after a row with this room is laid out after the others
pub record IsBehind (t u : Inside) (row rest : List (ℕ × First)) (room : ℕ) : Type 0 where
  pub within : length row + length rest ≡ room
  pub places : u.places.items ≡ set t.places.items (rows_in t)
      (record { start = start_behind t; end = start_behind t + length row }) ++ record {
        start = start_behind t + room;
        end = start_behind t + room;
      } ∷ []
  pub entries : u.entries.items ≡ take (start_behind t) t.entries.items ++ (row ++ rest)
  pub empty : u.empty ≡ t.empty + count_by has_none (row ∷ [])

module _ (t u : Inside) (row rest : List (ℕ
    × First)) (room : ℕ) (is : IsTable t) (to : IsBehind t u row rest room) where
  abbrev last_place : Place
  last_place = record { start = start_behind t; end = start_behind t + length row }

  abbrev behind_place : Place
  behind_place = record { start = start_behind t + room; end = start_behind t + room }

  one_more : length u.places.items ≡ length t.places.items + 1
  one_more = ap length to.places ∙ length_push (set t.places.items (rows_in t) last_place) behind_place
      ∙ ap (λ n. n + 1) (length-set t.places.items (rows_in t) last_place)

  pub rows_more : rows_in u ≡ rows_in t + 1
  rows_more = omega (arith, one_more, is.some)

  set_place : (x : ℕ) → x ≤ rows_in t
      → get_or u.places.items x nowhere ≡ get_or (set t.places.items (rows_in t) last_place) x nowhere
  set_place x le = ap (λ (ps : List Place). get_or ps x nowhere) to.places
      ∙ get_or_append_left (set t.places.items (rows_in t) last_place) (behind_place ∷ []) nowhere x
      (omega (arith, le, is.some, length-set t.places.items (rows_in t) last_place))

  last_is : get_or u.places.items (rows_in t) nowhere ≡ last_place
  last_is =
      set_place (rows_in t) (omega arith) ∙ get_or-set_same t.places.items (rows_in t) last_place nowhere (omega (
        arith,
        is.some,
      ))

  place_stays : (x : ℕ) → x < rows_in t → get_or u.places.items x nowhere ≡ get_or t.places.items x nowhere
  place_stays x lt =
      set_place x (omega (arith, lt)) ∙ get_or-set_other t.places.items (rows_in t) x last_place nowhere (λ e. omega (
        arith,
        e,
        lt,
      ))

  start_stays : (x : ℕ) → x ≤ rows_in t → start_of u x ≡ start_of t x
  start_stays x le = elim (cases_eq x (rows_in t)) [
    | inl e ↦ rw e (ap (λ (p : Place). p.start) last_is)
    | inr ne ↦ ap (λ (p : Place). p.start) (place_stays x (omega (arith, le, ne)))
  ]

  end_stays : (x : ℕ) → x < rows_in t → end_of u x ≡ end_of t x
  end_stays x lt = ap (λ (p : Place). p.end) (place_stays x lt)

  start_more : start_of u (rows_in t + 1) ≡ start_behind t + room
  start_more =
      ap (λ (ps : List Place). (get_or ps (rows_in t + 1) nowhere).start) to.places
      ∙ ap (λ (p : Place). p.start) (get_or_push (set t.places.items (rows_in t) last_place) behind_place nowhere
      (rows_in t + 1) (omega (arith, is.some, length-set t.places.items (rows_in t) last_place)))

  end_more : end_of u (rows_in t) ≡ start_behind t + length row
  end_more = ap (λ (p : Place). p.end) last_is

  entries_more : length u.entries.items ≡ start_behind t + room
  entries_more =
      omega (
        arith,
        ap length to.entries,
        length-append (take (start_behind t) t.entries.items) (row ++ rest),
        length-append row rest,
        length-take-le (start_behind t) t.entries.items (is.inside (rows_in t)),
        to.within,
      )

  row_stays : (x : ℕ) → x < rows_in t → row_between u x ≡ row_between t x
  row_stays x lt =
      let low : end_of t x ≤ start_behind t =
      omega (arith, is.high x lt, starts_rise t is (x + 1) (rows_in t) (omega arith) (omega arith)) in
      rw (start_stays x (omega arith), end_stays x lt, to.entries)
      (part_before t.entries.items (row
      ++ rest) (start_behind t) (start_of t x) (end_of t x) low (is.inside (rows_in t)))

  row_behind : row_between u (rows_in t) ≡ row
  row_behind =
      rw (start_stays (rows_in t) (omega arith), end_more, to.entries)
      (part_behind t.entries.items row rest (start_behind t) (is.inside (rows_in t)))

  -- the rows in the fields are those before, and the new one
  pub rows_behind : (table_of u).rows ≡ (table_of t).rows ++ row ∷ []
  rows_behind =
      let n = rows_in t in
      ap (λ m. map (row_between u) (range_with_len 0 m)) rows_more
      ∙ map-range_with_len_more (row_between u) 0 n n (omega arith)
      ∙ ap (λ rows. rows ++ row_between u n ∷ []) (alike_below (row_between u) (row_between t) n row_stays)
      ∙ ap (λ r. (table_of t).rows ++ r ∷ []) row_behind

  -- the same holds for their room
  pub rooms_behind : (table_of u).rooms ≡ (table_of t).rooms ++ room ∷ []
  rooms_behind =
      let n = rows_in t in
      let last : room_between u n ≡ room = omega (arith, start_more, start_stays n (omega arith)) in
      ap (λ m. map (room_between u) (range_with_len 0 m)) rows_more
      ∙ map-range_with_len_more (room_between u) 0 n n (omega arith)
      ∙ ap (λ rooms. rooms ++ room_between u n ∷ [])
      (alike_below (room_between u) (room_between t) n
      (λ x lt. rw (start_stays (x + 1) (omega arith), start_stays x (omega arith)) refl))
      ∙ ap (λ r. (table_of t).rooms ++ r ∷ []) last

  -- the fields are those of a table again
  pub table_behind : IsTable u
  table_behind =
      let n = rows_in t in
      let more = rows_more in
      record {
        some = omega (arith, one_more);
        low = λ x lt. elim (cases_eq x n) [
          | inl e ↦ rw e (omega (arith, start_stays n (omega arith), end_more))
          | inr ne ↦
              let less : x < n = omega (arith, lt, ne, more) in
              omega (arith, start_stays x (omega arith), end_stays x less, is.low x less)
        ];
        high = λ x lt. elim (cases_eq x n) [
          | inl e ↦ rw e (omega (arith, start_more, end_more, to.within))
          | inr ne ↦
              let less : x < n = omega (arith, lt, ne, more) in
              omega (arith, start_stays (x + 1) (omega arith), end_stays x less, is.high x less)
        ];
        inside = λ x. elim (cases_lt n x) [
          | inl past ↦ elim (cases_eq x (n + 1)) [
            | inl e ↦ rw e (omega (arith, start_more, entries_more))
            | inr ne ↦
                let none : start_of u x ≡ 0 =
                ap (λ (p : Place). p.start) (get_or_past u.places.items x nowhere (omega (
                  arith,
                  past,
                  ne,
                  one_more,
                  is.some,
                ))) in
                omega (arith, none)
          ]
          | inr le ↦ omega (arith, start_stays x le, starts_rise t is x n le (omega arith), entries_more)
        ];
        counted =
            to.empty ∙ ap (λ k. k + count_by has_none (row ∷ [])) is.counted
            ∙ sym (ap (count_by has_none) rows_behind
            ∙ sum_by-append (λ r. cond (has_none r) 1 0) (table_of t).rows (row ∷ []));
      }

-- the rows below x are laid out in another table, each with room for more, and with `keeps_room` with no less room than
-- before
pub record AreLaidOut (before : Table) (keeps_room : Bool) (x : ℕ) (after : Table) : Type 0 where
  pub rows : after.rows ≡ take x before.rows
  pub one_each : length after.rooms ≡ x
  pub room : (y : ℕ) → y < x → length (row_of before y) < room_of after y
  pub kept : IsTrue keeps_room → (y : ℕ) → y < x → room_of before y ≤ room_of after y

pub one_more_laid_out : (before : Table) (keeps_room : Bool) (x : ℕ) (after next : Table) (room : ℕ)
    → AreLaidOut before keeps_room x after → x < length before.rows → next.rows ≡ after.rows ++ row_of before x ∷ []
    → next.rooms ≡ after.rooms ++ room ∷ []
    → length (row_of before x) < room → (IsTrue keeps_room → room_of before x ≤ room)
    → AreLaidOut before keeps_room (x + 1) next
one_more_laid_out before keeps_room x after next room to lt rows rooms wide no_less =
    let here : room_of next x ≡ room = ap (λ rs. get_or rs x 0) rooms ∙ get_or_push after.rooms room 0 x to.one_each in
    let stays : (y : ℕ) → y < x → room_of next y ≡ room_of after y = λ y l.
    ap (λ rs. get_or rs y 0) rooms ∙ get_or_append_left after.rooms (room ∷ []) 0 y (omega (arith, l, to.one_each)) in
    record {
      rows = rows ∙ ap (λ rs. rs ++ row_of before x ∷ []) to.rows ∙ sym (take_more before.rows x [] lt);
      one_each = ap length rooms ∙ length_push after.rooms room ∙ ap (λ n. n + 1) to.one_each;
      room = λ y l. elim (cases_eq y x) [
        | inl e ↦ rw e (omega (arith, here, wide))
        | inr ne ↦ omega (arith, stays y (omega (arith, l, ne)), to.room y (omega (arith, l, ne)))
      ];
      kept = λ keeps y l. elim (cases_eq y x) [
        | inl e ↦ rw e (omega (arith, here, no_less keeps))
        | inr ne ↦ omega (arith, stays y (omega (arith, l, ne)), to.kept keeps y (omega (arith, l, ne)))
      ];
    }

-- after all are laid out, the rows are the same, each has room for more, and none has less
pub same_rows : (before : Table) (keeps_room : Bool) (after : Table)
    → AreLaidOut before keeps_room (length before.rows) after → after.rows ≡ before.rows
same_rows before keeps_room after to = to.rows ∙ take_all (length before.rows) before.rows (omega arith)

pub all_have_room : (before : Table) (keeps_room : Bool) (after : Table)
    → AreLaidOut before keeps_room (length before.rows) after → (x : ℕ) → x < length before.rows → HasRoomIn after x
all_have_room before keeps_room after to x lt =
    omega (arith, to.room x lt, ap (λ rows. length (get_or rows x [])) (same_rows before keeps_room after to))

pub room_kept : (before : Table) (keeps_room : Bool) (after : Table) → length before.rooms ≡ length before.rows
    → AreLaidOut before keeps_room (length before.rows) after → IsTrue keeps_room → KeepsRooms before after
room_kept before keeps_room after same to keeps x =
    elim (cases_lt x (length before.rows)) [
      | inl lt ↦ to.kept keeps x lt
      | inr past ↦ omega (arith, get_or_past before.rooms x 0 (omega (arith, past, same)))
    ]

-- a table has as many rows as its fields have ends, and a room for each
pub rows_counted : (t : Inside) (table : Table) → table_of t ≡ table → length table.rows ≡ rows_in t
rows_counted t table view = ap (λ (v : Table). length v.rows) (sym view) ∙ length_rows t

pub rooms_counted : (t : Inside) (table : Table) → table_of t ≡ table → length table.rooms ≡ length table.rows
rooms_counted t table view =
    ap (λ (v : Table). length v.rooms) (sym view) ∙ length-map-range_with_len (room_between t) 0 (rows_in t)
    ∙ sym (rows_counted t table view)
