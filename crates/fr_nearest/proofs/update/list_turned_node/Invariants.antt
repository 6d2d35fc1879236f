use Rattle.std.proofs.Common.{vec_capacity, ◌≡◌}
use Rattle.fr_nearest.specs.Update.{ListsRow}
use Rattle.fr_nearest.proofs.update.list_turned_node.Given as goal

abbrev pub invariant-loop-w : goal.invariant-loop-w
invariant-loop-w l = record {
  row : ListsRow l.net.nodes l.distances l.event l.x l.row l.w-index l.fn.list.items l.list.items;
  room : vec_capacity l.list ≡ vec_capacity l.fn.list;
}
