use Rattle.std.proofs.Common.{Bool, false, ℕ, ◌≡◌}
use Rattle.fr_graph.proofs.PartTurned.{IsHalfTurned}
use Rattle.fr_graph.specs.Network.{Network}
use Rattle.fr_graph.specs.TurnedRows.{ArePartTurned, is_done}
use Rattle.fr_graph.proofs.turned_rows.turn_node.Given as goal

abbrev pub invariant-loop-place : goal.invariant-loop-place
invariant-loop-place l = (net : Network) (seen : ℕ → Bool) → seen l.x ≡ false
    → ArePartTurned net l.counts (is_done l.counts seen) l.fn.rows → IsHalfTurned net l.counts seen l.x l.place l.rows
