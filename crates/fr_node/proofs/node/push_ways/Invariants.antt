use Rattle.std.proofs.Common.{length, take, vec_capacity, ◌≡◌, ◌≤◌}
use Rattle.fr_node.specs.Distances.{ways_of}
use Rattle.fr_node.proofs.node.push_ways.Given as goal

abbrev pub invariant-loop-link : goal.invariant-loop-link
invariant-loop-link l = record {
  room : vec_capacity l.ways ≡ vec_capacity l.fn.ways;
  few : length l.ways.items ≤ l.link-index;
  listed : l.ways.items ≡ ways_of l.own (take l.link-index l.links);
}
