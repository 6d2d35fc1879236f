use Rattle.std.proofs.Common.{◌≡◌}
use Rattle.fr_command.specs.Plays.{turnable_nodes}
use Rattle.fr_command.proofs.entries.turnable_nodes.Given as goal

-- the wanted nodes below x
abbrev pub invariant-loop-x : goal.invariant-loop-x
invariant-loop-x l = l.nodes.items ≡ turnable_nodes l.x l.dest l.net.links
