use Rattle.std.proofs.Common.{map, take, [], ℕ, ◌++◌, ◌≡◌}
use Rattle.fr_ways.proofs.plan.add_emptied.Given as goal

abbrev pub invariant-loop-x : goal.invariant-loop-x
invariant-loop-x l = record {
  nodes : l.pushes.nodes.items ≡ l.fn.pushes.nodes.items ++ take l.x-index l.nodes;
  lists : l.pushes.lists ≡ l.fn.pushes.lists ++ map (λ (x : ℕ). []) (take l.x-index l.nodes);
}
