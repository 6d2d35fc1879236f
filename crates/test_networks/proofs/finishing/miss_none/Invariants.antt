use Rattle.std.proofs.Common.{ℕ, ◌<◌}
use Rattle.std.specs.List.{Contains}
use Rattle.fr_core.specs.History.{moment_of}
use Rattle.fr_core.specs.Legal.{CanTurn}
use Rattle.test_networks.proofs.finishing.miss_none.Given as goal

-- each node so far that can turn is in the list
abbrev pub invariant-loop-x : goal.invariant-loop-x
invariant-loop-x l =
    (y : ℕ) → y < l.x → CanTurn l.net.nodes l.dest (moment_of l.net.links l.counts) y → Contains l.from y
