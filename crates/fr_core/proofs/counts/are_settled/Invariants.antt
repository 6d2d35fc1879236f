use Rattle.std.proofs.Common.{ℕ, ◌<◌}
use Rattle.fr_core.specs.History.{moment_of}
use Rattle.fr_core.specs.Legal.{CanTurn}
use Rattle.fr_core.proofs.counts.are_settled.Given as goal

-- no node that has been looked at can turn
abbrev pub invariant-loop-x : goal.invariant-loop-x
invariant-loop-x l = (y : ℕ) → y < l.x → ¬ CanTurn l.net.nodes l.dest (moment_of l.net.links l.counts) y
