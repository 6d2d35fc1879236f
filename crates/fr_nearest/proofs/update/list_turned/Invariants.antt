use Rattle.std.proofs.Common.{take, vec_capacity, ◌≡◌}
use Rattle.fr_nearest.specs.Update.{ListsTurned}
use Rattle.fr_nearest.proofs.update.list_turned.Given as goal

abbrev pub invariant-loop-x : goal.invariant-loop-x
invariant-loop-x l = record {
  turned : ListsTurned l.net l.distances l.event (take l.x-index l.turned) l.fn.list.items l.list.items;
  room : vec_capacity l.list ≡ vec_capacity l.fn.list;
}
