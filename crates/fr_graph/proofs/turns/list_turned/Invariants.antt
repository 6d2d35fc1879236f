use Rattle.std.proofs.Common.{get_or, length, vec_capacity, ℕ, ◌<◌, ◌≡◌, ◌≤◌}
use Rattle.fr_graph.proofs.TurnedNodes.{AreListed}
use Rattle.fr_graph.proofs.turns.list_turned.Given as goal

abbrev pub invariant-loop-x : goal.invariant-loop-x
invariant-loop-x l = record {
  same_room : vec_capacity l.nodes ≡ vec_capacity l.fn.nodes;
  few : length l.nodes.items ≤ l.x;
  once : (i j : ℕ) → i < j → j < length l.nodes.items → ¬ (get_or l.nodes.items i 0 ≡ get_or l.nodes.items j 0);
  listed : AreListed l.counts l.x l.nodes.items;
}
