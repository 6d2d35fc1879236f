-- Next hops while a round goes on. Under full reversal the links never contain a cycle (E. Gafni and D. Bertsekas,
-- "Distributed Algorithms for Generating Loop-Free Routes in Networks with Frequently Changing Topology", 1981). So
-- next hops along the links of one moment have no loop, whichever link each node takes, during a round as well as
-- after it. That is the promise, and it needs one moment: hops along links of different moments may have a loop.
use Rattle.std.specs.Prelude.{◌≡◌, ℕ, ◌<◌, List, ◌++◌, Contains, replicate, take}
use Rattle.atomic_table.specs.Table.{State}
use Rattle.fr_graph.specs.Counts.{links_at}
use Rattle.fr_graph.specs.Links.{IsNet, Points}
use Rattle.fr_core.specs.History.{links_after, moment_of, turn_count}
use Rattle.fr_core.specs.Legal.{IsRun}
use Rattle.fr_core.specs.Walks.{IsConnected}
use Rattle.fr_core.specs.declared.entry.Entry.{Entry}
use Rattle.fr_core.specs.declared.entry.Reply.TheVariants.{Held}
use Rattle.fr_round.specs.Rule.{KeepsRule}
use Rattle.fr_round.specs.declared.view.Setup.{Setup}
use Rattle.fr_round.specs.declared.view.View.{View}
use Rattle.fr_tables.specs.Tables.{IsLoopFree, IsWholeWalk, SendsOn, end_of}
use Rattle.fr_tables.specs.declared.hop.Hop.{Hop}
use Rattle.fr_laws.specs.Quiet.{IsQuiet}

-- Hops along links

-- each hop goes along a link: if x sends on to y, a link points from x to y. A node may take any of its links, or
-- send on to none
abbrev pub GoesAlong : List (ℕ × ℕ) → List Hop → Type 0
GoesAlong links table = (x y : ℕ) → SendsOn table x y → Points links x y

-- At each moment of a round, whichever link each node takes, next hops along its links have no loop.
abbrev pub RoundNeverLoops : Type 0
RoundNeverLoops = (b : Setup) (s : State (Unit {0}) View) (table : List Hop) → KeepsRule b s
    → GoesAlong (links_at b.links s.words) table → IsLoopFree table

-- The same holds after each run of full reversal from the first links of a network.
abbrev pub RunNeverLoops : Type 0
RunNeverLoops = (n d : ℕ) (first : List (ℕ × ℕ)) (h : List Entry) (table : List Hop) → IsNet n first
    → IsRun n d (moment_of first (replicate n 0)) h → GoesAlong (links_after first h) table → IsLoopFree table

-- each hop goes along a link of some moment of a run: the moment after its first k entries, where k may differ from
-- hop to hop
abbrev pub WentAlong : List (ℕ × ℕ) → List Entry → List Hop → Type 0
WentAlong first h table = (x y : ℕ) → SendsOn table x y → (k : ℕ) × Points (links_after first (take k h)) x y

-- a run of a network, and a table that has a loop although each of its hops goes along a link of some moment
pub record IsLoopOverTime (n d : ℕ) (first : List (ℕ × ℕ)) (h : List Entry) (table : List Hop) : Type 0 where
  pub net : IsNet n first
  pub in_range : d < n
  pub run : IsRun n d (moment_of first (replicate n 0)) h
  pub went : WentAlong first h table
  pub loops : ¬ IsLoopFree table

-- Hops of several moments may have a loop: in some run they have one.
abbrev pub SomeLoopOverTime : Type 0
SomeLoopOverTime = (n d : ℕ) × (first : List (ℕ × ℕ)) × (h : List Entry) × (table : List Hop)
    × IsLoopOverTime n d first h table

-- Hops from replies

-- each hop is read from a reply: if x sends on to y, one of the entries says that y holds x
abbrev pub AreReadFrom : List Entry → List Hop → Type 0
AreReadFrom entries table = (x y : ℕ) → SendsOn table x y
    → (e : Entry) × Contains entries e × (e.node ≡ x) × (e.reply ≡ Held y)

-- every node that one of the entries says is held sends on to some node
abbrev pub AllHeldSendOn : List Entry → List Hop → Type 0
AllHeldSendOn entries table = (e : Entry) (by : ℕ) → Contains entries e → e.reply ≡ Held by
    → (y : ℕ) × SendsOn table e.node y

-- Hops that are read from replies have no loop if no node turned between these replies.
abbrev pub RepliesNeverLoop : Type 0
RepliesNeverLoop = (n d : ℕ) (first : List (ℕ × ℕ)) (h still : List Entry) (table : List Hop) → IsNet n first
    → IsRun n d (moment_of first (replicate n 0)) (h ++ still) → turn_count still ≡ 0 → AreReadFrom still table
    → IsLoopFree table

-- If the replies are quiet as well, and each node that a reply names as the holder sends on, these hops lead every
-- connected node to the destination.
abbrev pub QuietHopsLeadHome : Type 0
QuietHopsLeadHome = (n d : ℕ) (first : List (ℕ × ℕ)) (h quiet : List Entry) (table : List Hop) → IsNet n first → d < n
    → IsRun n d (moment_of first (replicate n 0)) (h ++ quiet) → IsQuiet d first quiet → AreReadFrom quiet table
    → AllHeldSendOn quiet table → (x : ℕ) → IsConnected first d x
    → (ys : List ℕ) × IsWholeWalk table x ys × (end_of x ys ≡ d)
