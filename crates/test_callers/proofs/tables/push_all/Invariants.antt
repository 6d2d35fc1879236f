use Rattle.std.proofs.Common.{take}
use Rattle.fr_tables.specs.Pushes.{IsPushed}
use Rattle.test_callers.proofs.tables.push_all.Given as goal

abbrev pub invariant-loop-x : goal.invariant-loop-x
invariant-loop-x l = IsPushed l.fn.table l.new (take l.x-index l.x-items) l.table
