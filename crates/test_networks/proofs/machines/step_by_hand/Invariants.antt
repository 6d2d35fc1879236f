use Rattle.std.proofs.Common.{◌≡◌}
use Rattle.fr_core.specs.Played.{HasCome}
use Rattle.fr_core.specs.Targets.{lists_of}
use Rattle.test_networks.proofs.machines.step_by_hand.Given as goal

abbrev pub invariant-loop-worker : goal.invariant-loop-worker
invariant-loop-worker l =
    (l.machine.nodes ≡ l.net.nodes) × (l.machine.dest ≡ l.fn.dest) × (l.machine.links ≡ l.net.links)
    × HasCome l.machine (lists_of l.fn.targets.items) l.entries.items
