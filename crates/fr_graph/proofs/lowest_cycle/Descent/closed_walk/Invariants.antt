use Rattle.std.proofs.Common.{take, ◌∷◌, ◌≡◌}
use Rattle.fr_graph.specs.Descents.{nodes_of}
use Rattle.fr_graph.proofs.lowest_cycle.Descent.closed_walk.Given as goal

abbrev pub invariant-loop-step : goal.invariant-loop-step
invariant-loop-step l = l.walk.items ≡ l.self.to ∷ nodes_of (take l.step-index l.self.path.items)
