use Rattle.std.proofs.Common.{vec_capacity, ◌≡◌}
use Rattle.fr_nearest.specs.Search.{IsReading}
use Rattle.fr_nearest.proofs.search.reach_from.Given as goal

abbrev pub invariant-loop-y : goal.invariant-loop-y
invariant-loop-y l = record {
  reading : IsReading l.net l.fn.distances l.fn.list.items l.x l.read l.row l.y-index l.distances l.list.items;
  room : vec_capacity l.list ≡ vec_capacity l.fn.list;
}
