use Rattle.std.proofs.Common.{◌≡◌, ◌≤◌, vec_len, vec_capacity}
use Rattle.fr_crew.proofs.shared_nodes.SharedNodes.none.Given as goal

abbrev pub invariant-loop : goal.invariant-loop
invariant-loop g l = record {
  count : vec_len l.flags ≡ l.counter;
  room : l.nodes ≤ vec_capacity l.flags;
}
