use Rattle.std.proofs.Common.{take, false, get_or, length, vec_capacity, ◌++◌, ◌+◌, ◌≡◌, ◌≤◌}
use Rattle.std.specs.List.{filter}
use Rattle.fr_ways.proofs.kept_ways.copy_noted.Given as goal

abbrev pub invariant-loop-y : goal.invariant-loop-y
invariant-loop-y l = record {
  noted : l.list.items ≡ l.fn.list.items ++ filter (λ y. get_or l.noted y false) (take l.y-index l.ways);
  few : length l.list.items ≤ length l.fn.list.items + l.y-index;
  same_room : vec_capacity l.list ≡ vec_capacity l.fn.list;
}
