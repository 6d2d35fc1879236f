use Rattle.std.proofs.Common.{All, take}
use Rattle.fr_core.specs.Reaching.{IsNeighbour, IsReached, ReachesOnly}
use Rattle.fr_graph.specs.Rows.{row}
use Rattle.fr_core.proofs.levels.reach_neighbours.Given as goal

abbrev pub invariant-loop-entry : goal.invariant-loop-entry
invariant-loop-entry l = record {
  only : ReachesOnly l.net.nodes (IsNeighbour (row l.net.nodes l.net.links l.x) l.level.wanted) l.level.count
      l.initial.counts l.initial.queue l.counts l.queue;
  reached : All (IsReached l.net.nodes l.counts l.level.wanted) (take l.entry-index (row l.net.nodes l.net.links l.x));
}
