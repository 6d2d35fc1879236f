use Rattle.std.proofs.Common.{get_or, min, sum_by, take, ℕ, ◌-◌, ◌^◌, ◌≡◌}
use Rattle.fr_graph.proofs.turns.sum_of.Given as goal

abbrev pub invariant-loop-x : goal.invariant-loop-x
invariant-loop-x l = l.sum ≡ min (sum_by (λ (x : ℕ). get_or l.counts x 0) (take l.x-index l.nodes)) (2 ^ 64 - 1)
