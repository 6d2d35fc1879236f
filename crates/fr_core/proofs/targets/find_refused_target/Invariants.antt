use Rattle.std.proofs.Common.{take}
use Rattle.fr_core.specs.Targets.{AreAllAccepted, lists_of}
use Rattle.fr_core.proofs.targets.find_refused_target.Given as goal

abbrev pub invariant-loop-worker : goal.invariant-loop-worker
invariant-loop-worker l = AreAllAccepted l.net.nodes l.dest l.net.links (take l.worker (lists_of l.targets))
