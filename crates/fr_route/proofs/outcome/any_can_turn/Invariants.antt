use Rattle.std.proofs.Common.{ℕ, slice_index, ◌<◌}
use Rattle.fr_core.specs.History.{moment_of}
use Rattle.fr_core.specs.Legal.{CanTurn}
use Rattle.fr_route.proofs.outcome.any_can_turn.Given as goal

-- none of the nodes so far can turn
abbrev pub invariant-loop-x : goal.invariant-loop-x
invariant-loop-x l =
    (i : ℕ) → i < l.x-index → ¬ CanTurn l.net.nodes l.dest (moment_of l.net.links l.counts) (slice_index l.among i)
