use Rattle.std.proofs.Common.{ℕ, slice_index, ◌<◌}
use Rattle.fr_core.specs.History.{moment_of}
use Rattle.fr_core.specs.Legal.{CanTurn}
use Rattle.fr_core.specs.Reaching.{IsQueued}
use Rattle.fr_core.specs.Worklist.{AreNodes}
use Rattle.fr_core.proofs.worklist.add_sinks_among.Given as goal

-- of the nodes of `from` so far the worklist has all that can turn
abbrev pub invariant-loop-x : goal.invariant-loop-x
invariant-loop-x g l = record {
  nodes : AreNodes l.net.nodes l.work;
  all : (i : ℕ) → i < l.x-index → CanTurn l.net.nodes l.dest (moment_of l.net.links l.counts) (slice_index l.from i)
      → IsQueued l.work (slice_index l.from i);
}
