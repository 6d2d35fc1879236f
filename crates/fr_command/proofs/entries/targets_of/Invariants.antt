use Rattle.std.proofs.Common.{◌≡◌, replicate}
use Rattle.fr_core.specs.Targets.{lists_of}
use Rattle.fr_command.specs.Plays.{targets_for}
use Rattle.fr_command.proofs.entries.targets_of.Given as goal

abbrev pub invariant-loop-worker : goal.invariant-loop-worker
invariant-loop-worker l = lists_of l.targets.items
    ≡ replicate l._worker (targets_for l.net.nodes l.dest l.net.links l.draw.steps)
