use Rattle.std.proofs.Common.{vec_capacity, ◌-◌, ◌≡◌}
use Rattle.fr_nearest.specs.Search.{IsSearch}
use Rattle.fr_nearest.proofs.search.measure_all.Given as goal

abbrev pub invariant-loop-read : goal.invariant-loop-read
invariant-loop-read l = record {
  search : IsSearch l.net l.dest l.distances l.list.items l.read;
  room : vec_capacity l.list ≡ vec_capacity l.fn.list;
}

abbrev pub decreases-loop-read : goal.decreases-loop-read
decreases-loop-read l = l.net.nodes - l.read
