-- Rows of neighbours, one for each node, with room to grow in place. For proofs only.
use Rattle.std.specs.Prelude.{◌≡◌, ℕ, ◌<◌, ◌≤◌, ◌+◌, ◌-◌, Bool, true, false, List, [], ◌∷◌, length}
use Rattle.std.specs.Prelude.{map, slice_index, slice_index_or, slice_range, slice_set, count_by}
use Rattle.std.specs.List.{range_with_len}
use Rattle.fr_graph.specs.declared.row_table.Place.{Place}
use Rattle.fr_graph.specs.declared.row_table.RowTable.TheInside.{Inside}
use Rattle.fr_graph.specs.declared.first.First.{First}

-- the rows, and how many entries each has room for
pub record Table : Type 0 where
  pub rows : List (List (ℕ × First))
  pub rooms : List ℕ

-- the row of x
abbrev pub row_of : Table → ℕ → List (ℕ × First)
row_of table x = slice_index_or table.rows x []

-- how many entries the row of x has room for
abbrev pub room_of : Table → ℕ → ℕ
room_of table x = slice_index table.rooms x

-- the row of x has room for one more entry
abbrev pub HasRoomIn : Table → ℕ → Type 0
HasRoomIn table x = length (row_of table x) < room_of table x

-- the rows of u and v have room for a link between them
pub record HaveRoom (table : Table) (u v : ℕ) : Type 0 where
  pub tail : HasRoomIn table u
  pub head : HasRoomIn table v

-- no row has less room than before
abbrev pub KeepsRooms : Table → Table → Type 0
KeepsRooms before after = (x : ℕ) → room_of before x ≤ room_of after x

-- the table with this row in place of the row of x
abbrev pub with_row : Table → ℕ → List (ℕ × First) → Table
with_row table x entries = record { rows = slice_set table.rows x entries; rooms = table.rooms }

abbrev pub has_none : List (ℕ × First) → Bool
has_none [] = true
has_none (entry ∷ rest) = false

-- the starts of rows that follow each other without gaps. They never decrease, and the last one is where the last row
-- ends
pub record ArePacked (starts : List ℕ) (entries : List (ℕ × First)) : Type 0 where
  pub some : 0 < length starts
  pub rise : (x : ℕ) → x + 1 < length starts → slice_index starts x ≤ slice_index starts (x + 1)
  pub inside : (x : ℕ) → slice_index starts x ≤ length entries

-- the place of a row between two neighbouring starts
abbrev pub place_between : List ℕ → ℕ → Place
place_between starts x = record { start = slice_index starts x; end = slice_index starts (x + 1) }

abbrev pub places_of : List ℕ → List Place
places_of starts = map (place_between starts) (range_with_len 0 (length starts))

-- where the row at a place starts, and where it ends
abbrev pub start_at : List Place → ℕ → ℕ
start_at places x = (slice_index_or places x (record { start = 0; end = 0 })).start

abbrev pub end_at : List Place → ℕ → ℕ
end_at places x = (slice_index_or places x (record { start = 0; end = 0 })).end

-- the same in a table, which has one more place after those of its rows
abbrev pub start_of : Inside → ℕ → ℕ
start_of t x = start_at t.places.items x

abbrev pub end_of : Inside → ℕ → ℕ
end_of t x = end_at t.places.items x

abbrev pub rows_in : Inside → ℕ
rows_in t = length t.places.items - 1

-- the entries that are the row of x
abbrev pub row_between : Inside → ℕ → List (ℕ × First)
row_between t x = slice_range t.entries.items (start_of t x) (end_of t x)

-- the room from the start of the row of x to the start of the next one
abbrev pub room_between : Inside → ℕ → ℕ
room_between t x = start_of t (x + 1) - start_of t x

-- the value of a `RowTable` in contracts
abbrev pub table_of : Inside → Table
table_of t = record {
  rows = map (row_between t) (range_with_len 0 (rows_in t));
  rooms = map (room_between t) (range_with_len 0 (rows_in t));
}

-- each row ends before the next one starts, and the number of empty rows is right
pub record IsTable (t : Inside) : Type 0 where
  pub some : 0 < length t.places.items
  pub low : (x : ℕ) → x < rows_in t → start_of t x ≤ end_of t x
  pub high : (x : ℕ) → x < rows_in t → end_of t x ≤ start_of t (x + 1)
  pub inside : (x : ℕ) → start_of t x ≤ length t.entries.items
  pub counted : t.empty ≡ count_by has_none (table_of t).rows
