use Rattle.std.proofs.Common.{take}
use Rattle.fr_tables.specs.Inside.{IsLast}
use Rattle.fr_tables.proofs.push_room.last_routed.Given as goal

abbrev pub invariant-loop-x : goal.invariant-loop-x
invariant-loop-x l = IsLast l.marks (take l.x-index l.changed) l.last
