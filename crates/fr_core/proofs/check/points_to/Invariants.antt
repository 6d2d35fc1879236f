use Rattle.std.proofs.Common.{All, take, ℕ, ◌≡◌}
use Rattle.fr_graph.specs.declared.first.First.{First}
use Rattle.fr_core.proofs.check.points_to.Given as goal

abbrev pub invariant-loop-neighbour : goal.invariant-loop-neighbour
invariant-loop-neighbour l = All (λ (e : ℕ × First). ¬ (e.0 ≡ l.w)) (take l.neighbour-index l.row)
