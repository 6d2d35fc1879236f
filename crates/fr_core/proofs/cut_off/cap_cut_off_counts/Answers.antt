use Rattle.std.proofs.Common.{map, ◌≡◌}
use Rattle.fr_core.proofs.CutOff.{capped_later, could_before}
use Rattle.fr_core.specs.CutOff.{AreApart}
use Rattle.fr_graph.specs.Turns.{set_to}
use Rattle.fr_core.proofs.cut_off.cap_cut_off_counts.Goals as goal
use Rattle.fr_core.proofs.cut_off.cap_cut_off_counts.Goals.{After-set_each}

apart : (c : After-set_each) → AreApart c.args.net.now.links c.args.turns.now
apart c = c.are_turned_nodes_apart.ensures.0 c.if-are_turned_nodes_apart.true

set_as : (c : After-set_each) → c.set_each.new.self ≡ map (set_to c.args.net.now.nodes) c.args.turns.now
set_as c = rw (c.from.ensures, c.nodes.ensures.value) at c.set_each.ensures

pub returns-then-are_turned_nodes_apart-clause-later : goal.returns-then-are_turned_nodes_apart-clause-later
returns-then-are_turned_nodes_apart-clause-later c =
    let at = (goal.at.returns-then-are_turned_nodes_apart-clause-later c).After-set_each in
    let net = c.args.net.now in
    rw (set_as at) (capped_later net.nodes c.args.dest net.links c.args.turns.now c.requires.lawful (apart at))

pub returns-then-are_turned_nodes_apart-clause-fewer : goal.returns-then-are_turned_nodes_apart-clause-fewer
returns-then-are_turned_nodes_apart-clause-fewer c =
    let at = (goal.at.returns-then-are_turned_nodes_apart-clause-fewer c).After-set_each in
    let net = c.args.net.now in
    rw (set_as at) (could_before net.nodes c.args.dest net.links c.args.turns.now c.requires.lawful (apart at))
