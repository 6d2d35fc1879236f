use Rattle.std.proofs.Common.{take, vec_capacity, ◌≡◌}
use Rattle.fr_graph.proofs.heights.refill_from.Given as goal

abbrev pub invariant-loop-x : goal.invariant-loop-x
invariant-loop-x l = record {
  items : l.list.items ≡ take l.x-index l.nodes;
  same_room : vec_capacity l.list ≡ vec_capacity l.fn.list;
}
