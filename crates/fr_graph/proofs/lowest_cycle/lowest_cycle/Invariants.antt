use Rattle.std.proofs.Common.{◌≡◌}
use Rattle.fr_graph.specs.Descents.{IsDescent, left_count, start_of}
use Rattle.fr_graph.proofs.lowest_cycle.lowest_cycle.Given as goal

abbrev pub invariant-loop-descent : goal.invariant-loop-descent
invariant-loop-descent l = record {
  descent : IsDescent l.rows l.descent;
  start : start_of l.descent ≡ l.v;
  end : l.descent.to ≡ l.u;
}

abbrev pub decreases-loop-descent : goal.decreases-loop-descent
decreases-loop-descent l = left_count l.descent
