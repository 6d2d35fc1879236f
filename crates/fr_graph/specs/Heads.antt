-- The rows of a table as rows of heads, and what the search for a cycle along them finds. For proofs only.
use Rattle.std.specs.Prelude.{ℕ, ◌<◌, List, Option, Some, None, length, map}
use Rattle.std.specs.List.{All, AllPairs}
use Rattle.fr_graph.specs.Evidence.{IsLowestCycle}
use Rattle.fr_graph.specs.Heights.{HasHeadsFirst}
use Rattle.fr_graph.specs.Links.{IsAcyclic, IsCycle}
use Rattle.fr_graph.specs.Tables.{Table, row_of}
use Rattle.fr_graph.specs.declared.first.First.{First}
use Rattle.fr_graph.specs.declared.first.First.TheVariants.{Inward, Outward}
use Rattle.fr_search.specs.Heads.{HeadRows}
use Rattle.fr_search.specs.declared.search.CycleOrOrder.{CycleOrOrder}
use Rattle.fr_search.specs.declared.search.CycleOrOrder.TheVariants.{Cycle, Order}

-- the neighbour, if the link leads to it
abbrev pub if_outward : ℕ → First → Option ℕ
if_outward y Outward = Some y
if_outward y Inward = None

-- the head of the link of an entry, if it leads to the neighbour
abbrev pub head_of : ℕ × First → Option ℕ
head_of entry = if_outward entry.0 entry.1

-- the table as rows of heads
abbrev pub head_rows : Table → HeadRows
head_rows table = record { size = length table.rows; heads = λ x. map head_of (row_of table x) }

-- the neighbours in the rows are below n
abbrev pub AreEntriesBelow : ℕ → Table → Type 0
AreEntriesBelow n rows = (x : ℕ) → All (λ (e : ℕ × First). e.0 < n) (row_of rows x)

-- the neighbours in each row increase
abbrev pub AreRowsRising : Table → Type 0
AreRowsRising rows = (x : ℕ) → AllPairs (λ (e f : ℕ × First). e.0 < f.0) (row_of rows x)

-- what the search of n nodes finds: the lowest cycle or an order
abbrev pub IsFoundIn : ℕ → List (ℕ × ℕ) → CycleOrOrder → Type 0
IsFoundIn n links (Cycle walk) = IsCycle links walk.items × IsLowestCycle links walk.items
IsFoundIn n links (Order order) = IsAcyclic links × HasHeadsFirst n links order.items
