-- Tables of ways: each node has a list of nodes to which it may send on, its ways. The destination, and a node that is
-- cut off, have none. This project's own; next hops are those of RFC 6976.
use Rattle.std.specs.Prelude.{◌≡◌, ℕ, ◌<◌, ◌≤◌, List, [], Contains, Some, length, map, slice_get, slice_index}
use Rattle.std.specs.Prelude.{slice_index_or}
use Rattle.fr_search.specs.Heads.{HeadRows}
use Rattle.fr_tables.specs.Walks.{IsCycle, IsCycleFree, IsDownstream, IsWalk, end_of}

-- the ways of node x. A node past the end of the table has none
abbrev pub ways : List (List ℕ) → ℕ → List ℕ
ways table x = slice_index_or table x []

-- x may send on to y
abbrev pub Sends : List (List ℕ) → ℕ → ℕ → Type 0
Sends table x y = Contains (ways table x) y

-- the table as rows of heads: each way leads to a node
abbrev pub rows_of : List (List ℕ) → HeadRows
rows_of table = record { size = length table; heads = λ x. map Some (ways table x) }

-- each of these nodes may send on to the next, and the last to the first
abbrev pub HasCycle : List (List ℕ) → List ℕ → Type 0
HasCycle table nodes = IsCycle (Sends table) nodes

-- the table has no cycle, whichever ways its nodes choose
abbrev pub HasNoCycle : List (List ℕ) → Type 0
HasNoCycle table = IsCycleFree (Sends table)

-- each way of `part` is a way of the table: nodes have lost some of their ways
abbrev pub IsPartOf : List (List ℕ) → List (List ℕ) → Type 0
IsPartOf part table = (x y : ℕ) → Sends part x y → Sends table x y

-- each way names a node of the table
abbrev pub IsInRange : List (List ℕ) → Type 0
IsInRange table = (x y : ℕ) → Sends table x y → y < length table

-- each node downstream of x has a way, except d
abbrev pub LeadsOnTo : List (List ℕ) → ℕ → ℕ → Type 0
LeadsOnTo table d x = (y : ℕ) → IsDownstream (Sends table) x y → ¬ (y ≡ d) → (z : ℕ) × Sends table y z

-- a walk that cannot go on: its last node has no way
pub record IsWholeWalk (table : List (List ℕ)) (x : ℕ) (ys : List ℕ) : Type 0 where
  pub goes : IsWalk (Sends table) x ys
  pub ends : (y : ℕ) → ¬ Sends table (end_of x ys) y

-- y has ways in the table, and none of them in the part
pub record HasLostAll (table part : List (List ℕ)) (y : ℕ) : Type 0 where
  pub had : (z : ℕ) × Sends table y z
  pub none : (z : ℕ) → ¬ Sends part y z

-- the fewest steps of a walk from x to d
pub record IsDistance (table : List (List ℕ)) (d x steps : ℕ) : Type 0 where
  pub walk : List ℕ
  pub goes : IsWalk (Sends table) x walk
  pub arrives : end_of x walk ≡ d
  pub number : length walk ≡ steps
  pub fewest : (other : List ℕ) → IsWalk (Sends table) x other → end_of x other ≡ d → steps ≤ length other

-- y is the first way of x
abbrev pub SendsFirst : List (List ℕ) → ℕ → ℕ → Type 0
SendsFirst table x y = slice_get (ways table x) 0 ≡ Some y

-- the ways of each node are listed by their distances from d: before a way that leads to d come only ways that do, and
-- are not farther from it
abbrev pub IsNearestFirst : List (List ℕ) → ℕ → Type 0
IsNearestFirst table d = (x i j l : ℕ) → i < j → j < length (ways table x)
    → IsDistance table d (slice_index (ways table x) j) l
    → (k : ℕ) × IsDistance table d (slice_index (ways table x) i) k × (k ≤ l)
