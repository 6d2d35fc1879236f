-- The laws of push orders. Each one is a clause of a function of src/laws.rt. This project's own; updating downstream
-- routers first is the idea of RFC 6976.
use Rattle.std.specs.Prelude.{◌≡◌, ℕ, ◌≤◌, ◌++◌, ◌↔◌, List, ◌∷◌, Contains, length}
use Rattle.std.specs.Prelude.{nat_eq, count_by, [], slice_get, slice_set, Some}
use Rattle.fr_tables.specs.Tables.{Arrives, IsInRange, IsLoop, IsLoopFree, IsWalk}
use Rattle.fr_tables.specs.Pushes.{AreRoutedFirst, Grows, IsBetween, IsClosedDownstream, IsPushOrder, IsPushed}
use Rattle.fr_tables.specs.Pushes.{IsSentInTime, IsUpToGroup, Moves}
use Rattle.fr_tables.specs.declared.hop.Hop.{Hop}

-- Before the first push the table is the old one.
abbrev pub StartsAsOld : Type 0
StartsAsOld = (old new : List Hop) → IsPushed old new [] old

-- Each push writes one hop of the new table.
abbrev pub PushIsOneMore : Type 0
PushIsOneMore = (old new : List Hop) (nodes : List ℕ) (table : List Hop) (x : ℕ) (hop : Hop) → length old ≡ length new
    → slice_get new x ≡ Some hop → IsPushed old new nodes table
    → IsPushed old new (nodes ++ x ∷ []) (slice_set table x hop)

-- If the new table has no loop and the pushed nodes are closed downstream, every loop of the mixed table was a loop of
-- the old table, with the same nodes.
abbrev pub NoLoopIsNew : Type 0
NoLoopIsNew = (old new : List Hop) (nodes : List ℕ) (table : List Hop) (loop : List ℕ) → IsLoopFree new
    → IsClosedDownstream old new nodes → IsPushed old new nodes table → IsLoop table loop → IsLoop old loop

-- So the mixed table has no loop if the old table had none.
abbrev pub NeverLoops : Type 0
NeverLoops = (old new : List Hop) (nodes : List ℕ) (table : List Hop) → IsLoopFree old → IsLoopFree new
    → IsClosedDownstream old new nodes → IsPushed old new nodes table → IsLoopFree table

-- A pushed node has its walk of the new table.
abbrev pub PushedIsRight : Type 0
PushedIsRight = (old new : List Hop) (nodes : List ℕ) (table : List Hop) (x : ℕ) (ys : List ℕ)
    → IsClosedDownstream old new nodes
    → IsPushed old new nodes table → Contains nodes x → IsWalk table x ys ↔ IsWalk new x ys

-- If each pushed node has a route in the new table, no node loses the route that it has in the old one.
abbrev pub NoRouteIsLost : Type 0
NoRouteIsLost = (old new : List Hop) (nodes : List ℕ) (table : List Hop) (x : ℕ) → IsClosedDownstream old new nodes
    → ((y : ℕ) → Contains nodes y → Arrives new y) → IsPushed old new nodes table → Arrives old x → Arrives table x

-- A node with a route in the old and in the new table has one meanwhile, if nodes without a route in the new table
-- are pushed last. The law asks nothing of the old table, so it also holds for the old one without the hops over
-- failed links.
abbrev pub RoutesAreKept : Type 0
RoutesAreKept = (old new : List Hop) (nodes : List ℕ) (table : List Hop) (x : ℕ) → IsClosedDownstream old new nodes
    → AreRoutedFirst old new nodes → IsPushed old new nodes table → Arrives old x → Arrives new x → Arrives table x

-- If neither table has a loop, a packet that moves while hops are pushed visits no node more than twice.
abbrev pub ComesTwiceAtMost : Type 0
ComesTwiceAtMost = (old new : List Hop) (pushed : ℕ → List ℕ) (x : ℕ) (ys : List ℕ) (z : ℕ) → IsLoopFree old
    → IsLoopFree new
    → ((k : ℕ) → IsClosedDownstream old new (pushed k)) → Grows pushed → Moves old new pushed x ys
    → count_by (nat_eq z) (x ∷ ys) ≤ 2

-- Each prefix of a push order is closed downstream.
abbrev pub BeginningIsClosed : Type 0
BeginningIsClosed = (old new : List Hop) (done left : List ℕ) → IsPushOrder old new (done ++ left)
    → IsClosedDownstream old new done

-- In each of these prefixes, the nodes with a route in the new table come first.
abbrev pub BeginningIsRoutedFirst : Type 0
BeginningIsRoutedFirst = (old new : List Hop) (done left : List ℕ) → IsPushOrder old new (done ++ left)
    → AreRoutedFirst old new done

-- So while a push order is pushed, a node that has a route before and after it has one at each moment.
abbrev pub OrderKeepsRoutes : Type 0
OrderKeepsRoutes = (old new : List Hop) (done left : List ℕ) (table : List Hop) (x : ℕ)
    → IsPushOrder old new (done ++ left) → IsPushed old new done table
    → Arrives old x → Arrives new x → Arrives table x

-- Whole groups with any nodes of the next group are closed downstream: the nodes of a group may be pushed in any order,
-- or at the same time.
abbrev pub GroupsAreClosed : Type 0
GroupsAreClosed = (old new : List Hop) (nodes : List ℕ) → IsUpToGroup old new nodes → IsClosedDownstream old new nodes

-- A push is sent in time once all pushes downstream of it are confirmed, and a withdrawal once every node that gets a
-- route has confirmed. Whichever of the pushes sent in time have arrived, the nodes with new hops are closed
-- downstream, and those with a route come first.
abbrev pub AnyBetweenIsClosed : Type 0
AnyBetweenIsClosed = (old new : List Hop) (confirmed sent nodes : List ℕ) → IsSentInTime old new confirmed sent
    → IsBetween confirmed sent nodes → IsClosedDownstream old new nodes × AreRoutedFirst old new nodes

-- After the last push the table is the new one.
abbrev pub EndsAsNew : Type 0
EndsAsNew = (old new : List Hop) (order : List ℕ) (table : List Hop) → length old ≡ length new
    → IsPushOrder old new order
    → IsPushed old new order table → table ≡ new

-- Two tables of the same length have a push order, if the new one is in range and has no loop.
abbrev pub OrderExists : Type 0
OrderExists = (old new : List Hop) → length old ≡ length new → IsInRange new → IsLoopFree new
    → (order : List ℕ) × IsPushOrder old new order

-- Two tables have at most one push order.
abbrev pub OrderIsUnique : Type 0
OrderIsUnique = (old new : List Hop) (order other : List ℕ) → IsPushOrder old new order → IsPushOrder old new other
    → order ≡ other
