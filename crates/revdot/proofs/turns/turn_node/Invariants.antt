use Rattle.std.proofs.Common.{drop, map, take, ◌++◌, ◌≡◌}
use Rattle.fr_graph.specs.Turn.{turned_link}
use Rattle.revdot.proofs.turns.turn_node.Given as goal

abbrev pub invariant-loop-link : goal.invariant-loop-link
invariant-loop-link l = l.links ≡ map (turned_link l.x) (take l.link-index l.fn.links) ++ drop l.link-index l.fn.links
