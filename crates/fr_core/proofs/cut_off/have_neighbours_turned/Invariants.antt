use Rattle.std.proofs.Common.{All, take}
use Rattle.fr_core.specs.CutOff.{HasTurned}
use Rattle.fr_core.proofs.cut_off.have_neighbours_turned.Given as goal

abbrev pub invariant-loop-w : goal.invariant-loop-w
invariant-loop-w l = All (HasTurned l.counts) (take l.w-index l.row)
