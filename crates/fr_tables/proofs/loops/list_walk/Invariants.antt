use Rattle.std.proofs.Common.{length, vec_capacity, ◌-◌, ◌≤◌}
use Rattle.fr_tables.specs.Rounds.{IsTracing}
use Rattle.fr_tables.proofs.loops.list_walk.Given as goal

abbrev pub invariant-loop-marks : goal.invariant-loop-marks
invariant-loop-marks l = record {
  room : length l.table ≤ vec_capacity l.walk;
  tracing : IsTracing l.table l.fn.marks l.marks l.walk.items l.x l.at;
}

abbrev pub decreases-loop-marks : goal.decreases-loop-marks
decreases-loop-marks l = length l.table - length l.walk.items
