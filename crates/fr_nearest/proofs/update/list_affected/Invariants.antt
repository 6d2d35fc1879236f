use Rattle.std.proofs.Common.{vec_capacity, ◌≡◌}
use Rattle.fr_nearest.specs.Update.{IsListed, ListsSome}
use Rattle.fr_nearest.proofs.update.list_affected.Given as goal

abbrev pub invariant-loop-y : goal.invariant-loop-y
invariant-loop-y l = record {
  some : ListsSome l.distances l.old l.new l.row l.y-index l.fn.list.items l.list.items;
  listed : IsListed l.net.nodes l.list.items;
  room : vec_capacity l.list ≡ vec_capacity l.fn.list;
}
