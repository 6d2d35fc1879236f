use Rattle.std.proofs.Common.{ℕ, map, take, ◌++◌, ◌≡◌}
use Rattle.fr_graph.specs.declared.first.First.{First}
use Rattle.fr_core.proofs.worklist.add_neighbours.Given as goal

abbrev pub invariant-loop-w : goal.invariant-loop-w
invariant-loop-w g l = l.work ≡ l.initial.work ++ map (λ (e : ℕ × First). e.0) (take l.w-index l.row)
