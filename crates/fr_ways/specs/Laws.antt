-- The laws of tables of ways. Each one is a clause of a function of src/laws.rt. This project's own; updating
-- downstream routers first is the idea of RFC 6976.
use Rattle.std.specs.Prelude.{◌≡◌, ℕ, ◌<◌, ◌≤◌, ◌++◌, ◌↔◌, ◌⊎◌, List, ◌∷◌, Contains, length}
use Rattle.std.specs.Prelude.{nat_eq, count_by, [], slice_set}
use Rattle.std.specs.List.{IsDistinct}
use Rattle.fr_tables.specs.Walks.{IsCycleFree, IsDownstream, IsWalk, end_of}
use Rattle.fr_ways.specs.Phases.{IsGrowing, IsMixed, IsShrinking, shrunk}
use Rattle.fr_ways.specs.Pushes.{DifferAt, Grows, IsClosedDownstream, IsPushOrder, IsPushed, IsReady, IsUpToWave, IsWave}
use Rattle.fr_ways.specs.Pushes.{Moves, SendsMeanwhile, SendsOncePushed}
use Rattle.fr_ways.specs.Ways.{HasCycle, HasLostAll, HasNoCycle, IsDistance, IsInRange, IsNearestFirst, IsPartOf}
use Rattle.fr_ways.specs.Ways.{IsWholeWalk, LeadsOnTo, Sends, SendsFirst, ways}

-- A cycle of a part of a table is a cycle of the table.
abbrev pub PartsAddNoCycle : Type 0
PartsAddNoCycle = (part table : List (List ℕ)) (cycle : List ℕ) → IsPartOf part table → HasCycle part cycle
    → HasCycle table cycle

-- A table whose ways follow the links of an acyclic network has no cycle. A link is a pair: it points from its first
-- node to its second.
abbrev pub LinksMakeNoCycle : Type 0
LinksMakeNoCycle = (links : List (ℕ × ℕ)) (table : List (List ℕ)) → IsCycleFree (λ x y. Contains links (x, y))
    → ((x y : ℕ) → Sends table x y → Contains links (x, y)) → HasNoCycle table

-- In a table without a cycle a packet takes fewer steps than there are nodes, whichever ways it takes.
abbrev pub WalksAreShort : Type 0
WalksAreShort = (table : List (List ℕ)) (x : ℕ) (ys : List ℕ) → IsInRange table → HasNoCycle table → x < length table
    → IsWalk (Sends table) x ys → length ys < length table

-- If each node downstream of x has a way, except d, every walk from x goes on to d, whichever ways it takes.
abbrev pub EveryWayArrives : Type 0
EveryWayArrives = (table : List (List ℕ)) (d x : ℕ) (ys : List ℕ) → IsInRange table → HasNoCycle table
    → x < length table → LeadsOnTo table d x → IsWalk (Sends table) x ys → IsDownstream (Sends table) (end_of x ys) d

-- Whatever ways are taken away, and whichever of the others a packet takes, it visits no node twice. It stops at d, or
-- at a node all of whose ways were taken away.
abbrev pub FailoverIsSafe : Type 0
FailoverIsSafe = (table part : List (List ℕ)) (d x : ℕ) (ys : List ℕ) → HasNoCycle table → IsPartOf part table
    → ((y : ℕ) → Contains (x ∷ ys) y → ¬ (y ≡ d) → (z : ℕ) × Sends table y z) → IsWholeWalk part x ys
    → IsDistinct nat_eq (x ∷ ys) × ((end_of x ys ≡ d) ⊎ HasLostAll table part (end_of x ys))

-- If ways are listed by distance, the first way of a node that leads to d is one step nearer.
abbrev pub FirstIsNearer : Type 0
FirstIsNearer = (table : List (List ℕ)) (d x steps : ℕ) → IsNearestFirst table d → 0 < steps
    → IsDistance table d x steps → (y k : ℕ) × SendsFirst table x y × IsDistance table d y k × (k < steps)

-- So the walk by first ways is a shortest one.
abbrev pub FirstWaysAreShortest : Type 0
FirstWaysAreShortest = (table : List (List ℕ)) (d x steps : ℕ) → IsNearestFirst table d → IsDistance table d x steps
    → (ys : List ℕ) × IsWalk (SendsFirst table) x ys × (end_of x ys ≡ d) × (length ys ≡ steps)

-- Before the first push the table is the old one.
abbrev pub StartsAsOld : Type 0
StartsAsOld = (old new : List (List ℕ)) → IsPushed old new [] old

-- Each push writes the ways of one node of the new table.
abbrev pub PushIsOneMore : Type 0
PushIsOneMore = (old new : List (List ℕ)) (nodes : List ℕ) (table : List (List ℕ)) (x : ℕ) → length old ≡ length new
    → x < length new → IsPushed old new nodes table
    → IsPushed old new (nodes ++ x ∷ []) (slice_set table x (ways new x))

-- If the new table has no cycle and the pushed nodes are closed downstream, every cycle of the mixed table was a cycle
-- of the old table, with the same nodes. A router need not get its ways at once: while they are written one by one, it
-- may have old ways, and new ones that lead to ready nodes. It may also lose ways, and get them back.
abbrev pub NoCycleIsNew : Type 0
NoCycleIsNew = (old new : List (List ℕ)) (nodes : List ℕ) (table : List (List ℕ)) (cycle : List ℕ) → HasNoCycle new
    → IsClosedDownstream old new nodes → ((x y : ℕ) → Sends table x y → SendsMeanwhile old new nodes x y)
    → HasCycle table cycle → HasCycle old cycle

-- So the mixed table has no cycle if the old table had none, and nor has any part of it.
abbrev pub NeverCycles : Type 0
NeverCycles = (old new : List (List ℕ)) (nodes : List ℕ) (table part : List (List ℕ)) → HasNoCycle old → HasNoCycle new
    → IsClosedDownstream old new nodes → IsPushed old new nodes table → IsPartOf part table → HasNoCycle part

-- A pushed node has its walks of the new table.
abbrev pub PushedIsRight : Type 0
PushedIsRight = (old new : List (List ℕ)) (nodes : List ℕ) (table : List (List ℕ)) (x : ℕ) (ys : List ℕ)
    → IsClosedDownstream old new nodes
    → IsPushed old new nodes table → Contains nodes x → IsWalk (Sends table) x ys ↔ IsWalk (Sends new) x ys

-- A packet that moves while ways are pushed visits no node more than twice, whichever ways it takes.
abbrev pub ComesTwiceAtMost : Type 0
ComesTwiceAtMost = (old new : List (List ℕ)) (pushed : ℕ → List ℕ) (x : ℕ) (ys : List ℕ) (z : ℕ) → HasNoCycle old
    → HasNoCycle new
    → ((k : ℕ) → IsClosedDownstream old new (pushed k)) → Grows pushed → Moves old new pushed x ys
    → count_by (nat_eq z) (x ∷ ys) ≤ 2

-- Each prefix of a push order is closed downstream.
abbrev pub BeginningIsClosed : Type 0
BeginningIsClosed = (old new : List (List ℕ)) (done left : List ℕ) → IsPushOrder old new (done ++ left)
    → IsClosedDownstream old new done

-- So are whole waves with any nodes of the next one: the nodes of a wave may be pushed in any order, or at the same
-- time.
abbrev pub WavesAreClosed : Type 0
WavesAreClosed = (old new : List (List ℕ)) (nodes : List ℕ) (wave : ℕ) → IsInRange new → HasNoCycle new
    → IsUpToWave old new nodes wave → IsClosedDownstream old new nodes

-- While the ways of the next node of a push order are written one by one, in any order, the table has no cycle.
abbrev pub NextMayBeMixed : Type 0
NextMayBeMixed = (old new : List (List ℕ)) (done : List ℕ) (x : ℕ) (left : List ℕ) (table : List (List ℕ))
    → HasNoCycle old → HasNoCycle new → IsPushOrder old new (done ++ x ∷ left)
    → ((u v : ℕ) → Sends table u v → SendsOncePushed old new done u v ⊎ ((u ≡ x) × Sends new x v))
    → HasNoCycle table

-- The new ways of each node of the next wave lead to ready nodes, so they may all be written at the same time.
abbrev pub WaveIsReady : Type 0
WaveIsReady = (old new : List (List ℕ)) (nodes : List ℕ) (wave x y : ℕ) → IsInRange new → HasNoCycle new
    → IsUpToWave old new nodes wave → DifferAt old new x → IsWave old new x wave → Sends new x y
    → IsReady old new nodes y

-- After the last push the table is the new one.
abbrev pub EndsAsNew : Type 0
EndsAsNew = (old new : List (List ℕ)) (order : List ℕ) (table : List (List ℕ)) → length old ≡ length new
    → IsPushOrder old new order
    → IsPushed old new order table → table ≡ new

-- Two tables of the same length have a push order, if the new one is in range and has no cycle.
abbrev pub OrderExists : Type 0
OrderExists = (old new : List (List ℕ)) → length old ≡ length new → IsInRange new → HasNoCycle new
    → (order : List ℕ) × IsPushOrder old new order

-- Two tables have at most one push order.
abbrev pub OrderIsUnique : Type 0
OrderIsUnique = (old new : List (List ℕ)) (order other : List ℕ) → IsPushOrder old new order
    → IsPushOrder old new other → order ≡ other

-- While routers shrink, in any order, the table is a part of the old one.
abbrev pub ShrinkingIsOld : Type 0
ShrinkingIsOld = (old new table : List (List ℕ)) → IsShrinking old new table → IsPartOf table old

-- Once all have shrunk, and while they grow, in any order, it is a part of the new one.
abbrev pub GrowingIsNew : Type 0
GrowingIsNew = (old new table : List (List ℕ)) → IsGrowing old new table → IsPartOf table new

-- So in both phases the table has no cycle, and nor has any part of it: routers may write their ways one by one, and
-- links may fail meanwhile.
abbrev pub PhasesMakeNoCycle : Type 0
PhasesMakeNoCycle = (old new table part : List (List ℕ)) → HasNoCycle old → HasNoCycle new
    → IsShrinking old new table ⊎ IsGrowing old new table → IsPartOf part table → HasNoCycle part

-- A router that gets no way which it did not have is done once it has shrunk.
abbrev pub LoserIsDone : Type 0
LoserIsDone = (old new : List (List ℕ)) (x : ℕ) → ((y : ℕ) → Sends new x y → Sends old x y)
    → (y : ℕ) × Sends old x y × ¬ Sends new x y → shrunk old new x ≡ ways new x

-- If no router loses a way, or none gets one, one phase is enough: routers may get their new ways in any order.
abbrev pub OnePhaseIsEnough : Type 0
OnePhaseIsEnough = (old new table part : List (List ℕ)) → HasNoCycle old → HasNoCycle new
    → IsPartOf old new ⊎ IsPartOf new old → IsMixed old new table → IsPartOf part table → HasNoCycle part
