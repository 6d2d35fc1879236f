use Rattle.std.proofs.Common.{take}
use Rattle.fr_nearest.specs.Affected.{HasOne, IsNextTo}
use Rattle.fr_nearest.specs.Marks.{HasMarked}
use Rattle.fr_nearest.proofs.affected.Marks.mark_turned.Given as goal

abbrev pub invariant-loop-x : goal.invariant-loop-x
invariant-loop-x l = HasMarked
    (HasOne (IsNextTo l.net.links) (take l.x-index l.turned))
    (HasOne (IsNextTo l.net.links) (take l.x-index l.turned)) l.fn.self l.self
