use Rattle.std.proofs.Common.{All, take}
use Rattle.fr_core.proofs.SensesByRow.{IsKeptOut}
use Rattle.fr_core.proofs.counts.has_directions_in_row.Given as goal

abbrev pub invariant-loop-w : goal.invariant-loop-w
invariant-loop-w l = All (IsKeptOut l.counts l.x) (take l.w-index l.row)
