use Rattle.std.proofs.Common.{slice_index, ◌++◌, ◌==◌, ◌≡◌}
use Rattle.std.specs.List.{filter, range_with_len}
use Rattle.fr_route.proofs.outcome.push_capped_nodes.Given as goal

abbrev pub invariant-loop-x : goal.invariant-loop-x
invariant-loop-x l =
    l.capped.items ≡ l.fn.capped.items ++ filter (λ x. slice_index l.counts x == l.nodes) (range_with_len 0 l.x)
