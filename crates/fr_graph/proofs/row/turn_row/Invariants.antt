use Rattle.std.proofs.Common.{drop, map, take, ◌++◌, ◌≡◌}
use Rattle.fr_graph.specs.RowLists.{turned_entry}
use Rattle.fr_graph.proofs.row.turn_row.Given as goal

abbrev pub invariant-loop-entry : goal.invariant-loop-entry
invariant-loop-entry l =
    l.row ≡ map (turned_entry l.counts l.x) (take l.entry-index l.fn.row) ++ drop l.entry-index l.fn.row
