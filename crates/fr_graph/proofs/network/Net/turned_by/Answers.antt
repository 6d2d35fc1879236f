use Rattle.std.proofs.Common.{◌∙◌, ◌≡◌}
use Rattle.fr_graph.proofs.network.Net.turned_by.Goals as goal
use Rattle.fr_graph.proofs.network.Net.turned_by.Goals.{In_ok-turns}

-- the turns are those of the counts
turns : (c : In_ok-turns) → c.in_ok-turns.turns ≡ c.args.counts.now
turns c = c.in_ok-turns.ensures ∙ c.in_ok-to_vec.ensures.items_if_clones_equal (λ x y e. e)

pub turn-requires-clause-one_each : goal.turn-requires-clause-one_each
turn-requires-clause-one_each c =
    rw (turns (goal.at.turn-requires-clause-one_each c).In_ok-turns, c.in_ok-net.ensures) c.requires.one_each

pub turn-requires-clause-kept : goal.turn-requires-clause-kept
turn-requires-clause-kept c =
    rw (turns (goal.at.turn-requires-clause-kept c).In_ok-turns, c.in_ok-net.ensures) c.requires.kept

pub returns-clause-ok : goal.returns-clause-ok
returns-clause-ok c = rw (turns (goal.at.returns-clause-ok c).In_ok-turns, c.in_ok-net.ensures) at c.turn.ensures
