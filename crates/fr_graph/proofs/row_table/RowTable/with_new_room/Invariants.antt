use Rattle.fr_graph.proofs.LaidOut.{AreLaidOut}
use Rattle.fr_graph.proofs.row_table.RowTable.with_new_room.Given as goal

abbrev pub invariant-loop-x : goal.invariant-loop-x
invariant-loop-x l = AreLaidOut l.self l.keeps_room l.x l.table
