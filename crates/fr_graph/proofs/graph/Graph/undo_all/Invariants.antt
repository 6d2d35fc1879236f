use Rattle.std.proofs.Common.{vec_len}
use Rattle.fr_graph.specs.Graph.{CanUndo, IsGraph}
use Rattle.fr_graph.specs.Network.{Network}
use Rattle.fr_graph.proofs.graph.Graph.undo_all.Given as goal

abbrev pub invariant-loop-last : goal.invariant-loop-last
invariant-loop-last l = record {
  graph : IsGraph l.self;
  undo : (first : Network) → CanUndo first l.fn.done.items l.fn.self → CanUndo first l.done.items l.self;
}

abbrev pub decreases-loop-last : goal.decreases-loop-last
decreases-loop-last l = vec_len l.done
