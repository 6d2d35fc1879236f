use Rattle.std.proofs.Common.{◌≡◌, map}
use Rattle.std.specs.List.{range_with_len}
use Rattle.revdot.specs.Strips.{turn_node}
use Rattle.revdot.proofs.strips.turn_nodes.Given as goal

abbrev pub invariant-loop-y : goal.invariant-loop-y
invariant-loop-y l = l.drawn.items ≡ map (turn_node l.dest l.counts l.x) (range_with_len 0 l.y)
