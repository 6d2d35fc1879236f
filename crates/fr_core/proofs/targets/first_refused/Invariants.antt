use Rattle.std.proofs.Common.{take}
use Rattle.fr_core.specs.Targets.{AreAccepted}
use Rattle.fr_core.proofs.targets.first_refused.Given as goal

abbrev pub invariant-loop-at : goal.invariant-loop-at
invariant-loop-at l = AreAccepted l.net.nodes l.dest l.net.links (take l.at l.targets)
