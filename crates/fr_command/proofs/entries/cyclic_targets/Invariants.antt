use Rattle.std.proofs.Common.{◌≡◌, take, map}
use Rattle.std.specs.List.{repeat}
use Rattle.fr_core.specs.declared.targets.Target.TheVariants.{Turn}
use Rattle.fr_command.proofs.entries.cyclic_targets.Given as goal

abbrev pub invariant-loop-place : goal.invariant-loop-place
invariant-loop-place l = l.turns.items ≡ map Turn (take l.place (repeat l.most l.nodes))
