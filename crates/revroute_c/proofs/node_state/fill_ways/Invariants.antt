use Rattle.std.proofs.Common.{get_or, length, ℕ, ◌<◌, ◌≡◌}
use Rattle.fr_node.specs.declared.way.Way.{Way}
use Rattle.revroute_c.proofs.node_state.fill_ways.Given as goal

abbrev none : Way
none = record { neighbour = 0; distance = 0 }

abbrev pub invariant-loop-at : goal.invariant-loop-at
invariant-loop-at l = (length l.place ≡ length l.ways)
    × ((y : ℕ) → y < l.at → get_or l.place y 0 ≡ (get_or l.ways y none).neighbour)
