use Rattle.std.proofs.Common.{ℕ, length, ◌<◌, ◌≤◌}
use Rattle.fr_core.specs.History.{moment_of}
use Rattle.fr_core.specs.Legal.{CanTurn}
use Rattle.fr_core.specs.Reaching.{IsQueued}
use Rattle.fr_core.specs.Worklist.{AreNodes}
use Rattle.fr_core.proofs.worklist.add_sinks.Given as goal

-- of the nodes so far the worklist has all that can turn
abbrev pub invariant-loop-x : goal.invariant-loop-x
invariant-loop-x l = record {
  few : length l.work ≤ l.x;
  nodes : AreNodes l.net.nodes l.work;
  all : (y : ℕ) → y < l.x → CanTurn l.net.nodes l.dest (moment_of l.net.links l.counts) y → IsQueued l.work y;
}
