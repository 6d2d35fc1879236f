use Rattle.std.proofs.Common.{All, take}
use Rattle.fr_core.proofs.SensesByRow.{PointsBy}
use Rattle.fr_core.specs.declared.directions.Sense.TheVariants.{Inward}
use Rattle.fr_core.proofs.counts.is_sink.Given as goal

abbrev pub invariant-loop-w : goal.invariant-loop-w
invariant-loop-w l = All (PointsBy l.counts l.x Inward) (take l.w-index l.row)
