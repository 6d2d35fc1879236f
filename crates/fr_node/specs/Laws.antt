-- The laws of networks of routers. They are this project's own.
use Rattle.std.specs.Prelude.{List, false, ℕ, ◌<◌, ◌≡◌}
use Rattle.fr_node.specs.declared.node.Node.{Node}
use Rattle.fr_node.specs.Arrivals.{Arrive, IsLinkedTo, IsQuiet}
use Rattle.fr_node.specs.Routers.{Net, IsStart, IsRun, IsUsed, last, HasNoLoop}

-- At the end of every run, and so at every moment, the used links contain no cycle, whatever messages are lost,
-- delayed, repeated or reordered, and whichever routers restart with a greater start number.
abbrev pub NeverALoop : Type 0
NeverALoop = (s : Net) (ts : List Net) → IsStart s → IsRun s ts → HasNoLoop (last s ts)

-- In some run a router that has restarted comes to use a link to a router that is no gateway.
abbrev pub SomeLinkIsUsed : Type 0
SomeLinkIsUsed = (s : Net) × (ts : List Net) × IsStart s × IsRun s ts × IsUsed (last s ts) 1 0
    × ((y : ℕ) → 0 < (s.router y).boot) × ((s.router 1).boot < ((last s ts).router 1).boot)
    × (((last s ts).router 0).gateway ≡ false)

-- Once all messages have arrived and no router raises its height, packets of each router that has a link come to a
-- gateway after a bounded number of links, whichever ways they take. Each router that they reach has a way itself.
-- Links are up at both ends, and each last announcement is acknowledged. A router may announce a height, as its last
-- announcement is in use, but its policy announces none. The next number and a greater height have 64 bits.
abbrev pub PacketsArrive : Type 0
PacketsArrive = (routers : ℕ) (node : ℕ → Node) → IsQuiet routers node
    → (x w : ℕ) → x < routers → IsLinkedTo (node x) w → (k : ℕ) × Arrive node k x
