-- How a table of ways lies in two lists, the form in which other languages read it: compressed sparse rows.
use Rattle.std.specs.Prelude.{◌≡◌, ℕ, ◌<◌, ◌≤◌, ◌+◌, ◌-◌, List, [], ◌∷◌, length, slice_index, slice_range, take}
use Rattle.std.specs.List.{concat}
use Rattle.fr_ways.specs.declared.table.WayTable.TheInside.{Inside}

-- where the ways of each node begin in the list of all ways. The last entry is the length of that list
pub record AreStarts (table : List (List ℕ)) (starts : List ℕ) : Type 0 where
  pub one_more : length starts ≡ length table + 1
  pub each : (x : ℕ) → x ≤ length table → slice_index starts x ≡ length (concat (take x table))

-- the ways of the table lie in the list, node by node, and those of each node begin at its place
pub record IsLaidOut (starts list : List ℕ) (table : List (List ℕ)) : Type 0 where
  pub begins : AreStarts table starts
  pub all : concat table ≡ list

-- the places begin at 0, do not fall, and end at this number
pub record AreBounds (starts : List ℕ) (end : ℕ) : Type 0 where
  pub some : 0 < length starts
  pub first : slice_index starts 0 ≡ 0
  pub rise : (k : ℕ) → k + 1 < length starts → slice_index starts k ≤ slice_index starts (k + 1)
  pub last : slice_index starts (length starts - 1) ≡ end

-- the rows of a list that end at these places, the first of which begins at `start`
abbrev pub rows_from : List ℕ → ℕ → List ℕ → List (List ℕ)
rows_from list start [] = []
rows_from list start (end ∷ ends) = slice_range list start end ∷ rows_from list end ends

abbrev pub rows_of : List ℕ → List ℕ → List (List ℕ)
rows_of list [] = []
rows_of list (start ∷ ends) = rows_from list start ends

-- the places do not fall, and the last one is the end of the list
abbrev pub DoNotFall : ℕ → List ℕ → ℕ → Type 0
DoNotFall start [] last = start ≡ last
DoNotFall start (end ∷ ends) last = (start ≤ end) × DoNotFall end ends last

abbrev pub AreRows : List ℕ → List ℕ → Type 0
AreRows list [] = ⊥
AreRows list (start ∷ ends) = (start ≡ 0) × DoNotFall start ends (length list)

abbrev pub table_of : Inside → List (List ℕ)
table_of table = rows_of table.list.items table.starts.items

abbrev pub IsTable : Inside → Type 0
IsTable table = AreRows table.list.items table.starts.items
