-- Nodes that lead to nodes by the entries of their rows, and what a search along them finds. An order with the rows
-- first is a topological order of the reversed graph, and the way to the cycle is the path of a depth-first search, as
-- in R. Tarjan, "Depth-First Search and Linear Graph Algorithms", 1972.
use Rattle.std.specs.Prelude.{◌≡◌, ◌≢◌, ℕ, ◌<◌, ◌≤◌, ◌+◌, List, Option, Some, None, length, drop, slice_index}
use Rattle.std.specs.Prelude.{slice_index_or}
use Rattle.std.specs.List.{All, Contains}
use Rattle.fr_search.specs.declared.search.CycleOrOrder.{CycleOrOrder}
use Rattle.fr_search.specs.declared.search.CycleOrOrder.TheVariants.{Cycle, Order}

-- the rows of this number of nodes, with the head of each entry that has one
pub record HeadRows : Type 0 where
  pub size : ℕ
  pub heads : ℕ → List (Option ℕ)

-- the head of the entry at this place of the row of x
abbrev pub head_at : HeadRows → ℕ → ℕ → Option ℕ
head_at rows x place = slice_index_or (rows.heads x) place None

-- an entry leads from x to y
abbrev pub Leads : HeadRows → ℕ → ℕ → Type 0
Leads rows x y = (place : ℕ) × (head_at rows x place ≡ Some y)

-- each of n nodes has a row, and each head is one of them
pub record AreRowsOf (n : ℕ) (rows : HeadRows) : Type 0 where
  pub each : n ≤ rows.size
  pub below : (x y : ℕ) → Leads rows x y → y < n

-- the list has the heads of each of its nodes, and before the node
pub record AreHeadsFirst (rows : HeadRows) (order : List ℕ) : Type 0 where
  pub closed : (x y : ℕ) → Contains order x → Leads rows x y → Contains order y
  pub first : (i j : ℕ) → i < length order → j < length order
      → Leads rows (slice_index order i) (slice_index order j) → j < i

-- it is an order of all n nodes
pub record IsInOrder (n : ℕ) (rows : HeadRows) (order : List ℕ) : Type 0 where
  pub few : length order ≤ n
  pub below : All (λ (x : ℕ). x < n) order
  pub all : (x : ℕ) → x < n → Contains order x
  pub heads_first : AreHeadsFirst rows order

-- y is the first head of x that is not in the list
pub record LeadsFirst (rows : HeadRows) (left : List ℕ) (x y : ℕ) : Type 0 where
  pub place : ℕ
  pub leads : head_at rows x place ≡ Some y
  pub earlier : (k z : ℕ) → k < place → head_at rows x k ≡ Some z → Contains left z

-- No cycle can be reached from a node of a list with the heads first. If all such nodes are left, a way that begins at
-- the lowest other node, and always goes on by the first entry that leads to one, comes to one of its nodes again. The
-- cycle is the part of the way from that node on.
pub record IsFirstCycle (rows : HeadRows) (walk : List ℕ) : Type 0 where
  pub left : List ℕ
  pub heads_first : AreHeadsFirst rows left
  pub way : List ℕ
  pub last : ℕ
  pub whole : last + 1 ≡ length way
  pub begins : (w : ℕ) → w < slice_index way 0 → Contains left w
  pub goes_on : (k : ℕ) → k < last → LeadsFirst rows left (slice_index way k) (slice_index way (k + 1))
  pub back : ℕ
  pub earlier : back < last
  pub again : slice_index way last ≡ slice_index way back
  pub once : (i j : ℕ) → i < j → j < last → slice_index way i ≢ slice_index way j
  pub is : walk ≡ drop back way

-- what the search finds
abbrev pub IsFound : ℕ → HeadRows → CycleOrOrder → Type 0
IsFound n rows (Cycle walk) = IsFirstCycle rows walk.items
IsFound n rows (Order order) = IsInOrder n rows order.items
