use Rattle.fr_graph.proofs.PartTurned.{stands_before}
use Rattle.fr_graph.specs.Network.{Network}
use Rattle.fr_graph.specs.TurnedRows.{ArePartTurned, is_done, none_done}
use Rattle.fr_graph.proofs.turned_rows.turn_rows.Given as goal

-- the nodes before this place of the list are handled
abbrev pub invariant-loop-x : goal.invariant-loop-x
invariant-loop-x l = (net : Network) → ArePartTurned net l.turns none_done l.fn.rows
    → ArePartTurned net l.turns (is_done l.turns (stands_before l.x-items l.x-index)) l.rows
