use Rattle.std.proofs.Common.{◌-◌}
use Rattle.fr_core.specs.Worklist.{AreLater, IsWorklist}
use Rattle.fr_core.proofs.worklist.turn_queued_sinks.Given as goal

abbrev pub invariant-loop-at : goal.invariant-loop-at
invariant-loop-at g l = record {
  later : AreLater l.net l.dest l.fn.turns l.turns;
  work : IsWorklist l.net l.dest l.turns l.work l.at;
}

abbrev pub decreases-loop-at : goal.decreases-loop-at
decreases-loop-at g l = g.row.PLACES - l.at
