use Rattle.std.proofs.Common.{take}
use Rattle.fr_tables.specs.Rounds.{AreMarkedAs}
use Rattle.fr_tables.proofs.loops.mark_all.Given as goal

abbrev pub invariant-loop-x : goal.invariant-loop-x
invariant-loop-x l = AreMarkedAs l.mark (take l.x-index l.nodes) l.fn.marks l.marks
