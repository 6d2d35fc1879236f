use Rattle.std.proofs.Common.{take, vec_capacity, ◌++◌, ◌≡◌}
use Rattle.fr_ways.proofs.reserved_rows.append_ways.Given as goal

abbrev pub invariant-loop-y : goal.invariant-loop-y
invariant-loop-y l = record {
  items : l.list.items ≡ l.fn.list.items ++ take l.y-index l.ways;
  same_room : vec_capacity l.list ≡ vec_capacity l.fn.list;
}
