use Rattle.std.proofs.Common.{◌≡◌, map}
use Rattle.std.specs.List.{range_with_len}
use Rattle.revdot.specs.Settled.{settled_node}
use Rattle.revdot.proofs.settled.settled_nodes.Given as goal

abbrev pub invariant-loop-x : goal.invariant-loop-x
invariant-loop-x l = l.nodes.items ≡ map (settled_node l.counts l.hops) (range_with_len 0 l.x)
