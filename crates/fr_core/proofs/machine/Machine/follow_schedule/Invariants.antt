use Rattle.std.proofs.Common.{drop}
use Rattle.fr_core.specs.Sound.{IsOnTheWay}
use Rattle.fr_core.proofs.machine.Machine.follow_schedule.Given as goal

abbrev pub invariant-loop-worker : goal.invariant-loop-worker
invariant-loop-worker l = IsOnTheWay l.initial.self l.self l.entries.items (drop l.worker-index l.schedule) l.schedule
