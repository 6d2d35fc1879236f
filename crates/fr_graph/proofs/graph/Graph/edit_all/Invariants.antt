use Rattle.std.proofs.Common.{length, take, vec_capacity, vec_len, ◌≡◌, ◌≤◌}
use Rattle.fr_graph.specs.Batches.{AreMade}
use Rattle.fr_graph.specs.Graph.{CanUndo, IsGraph, shown}
use Rattle.fr_graph.proofs.graph.Graph.edit_all.Given as goal

abbrev pub invariant-loop-at : goal.invariant-loop-at
invariant-loop-at l = record {
  graph : IsGraph l.self;
  made : AreMade (shown l.fn.self) (take l.at l.edits) (shown l.self);
  undo : CanUndo (shown l.fn.self) l.done.items l.self;
  one_each : vec_len l.done ≡ l.at;
  all_room : length l.edits ≤ vec_capacity l.done;
}
