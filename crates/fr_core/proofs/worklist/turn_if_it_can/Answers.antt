use Rattle.fr_core.proofs.Worklists.{passed_over, turn_carries, turned_later}
use Rattle.fr_core.specs.History.{moment_of}
use Rattle.fr_core.specs.Legal.{CanTurn}
use Rattle.fr_core.proofs.worklist.turn_if_it_can.Goals as goal
use Rattle.fr_core.proofs.worklist.turn_if_it_can.Given.{Over}
use Rattle.fr_core.proofs.worklist.turn_if_it_can.Goals.{After-add_neighbours}

can : (g : Over) → (c : After-add_neighbours g)
    → CanTurn c.args.net.now.nodes c.args.dest (moment_of c.args.net.now.links c.args.turns.now) c.args.x
can g c = rw c.counts.ensures at (c.can_turn.ensures.0 c.if-not-can_turn.false)

pub returns-clause-later : goal.returns-clause-later
returns-clause-later g c =
    let net = c.args.net.now in
    let here = (goal.at.returns-clause-later g c).After-add_neighbours in
    rw c.add.ensures (turned_later net.nodes c.args.dest net.links c.requires.net c.args.turns.now c.requires.lawful
    c.args.x (can g here))

pub returns-clause-carries : goal.returns-clause-carries
returns-clause-carries g c = λ _.
    let net = c.args.net.now in
    let here = (goal.at.returns-clause-carries g c).After-add_neighbours in
    rw (c.add_neighbours.ensures.added c.if-not-add_neighbours.false, c.add.ensures)
    (turn_carries net.nodes c.args.dest net.links c.requires.net c.args.turns.now c.requires.lawful c.args.x
    (can g here) c.args.work.now)

pub returns-then-not-can_turn-clause-carries : goal.returns-then-not-can_turn-clause-carries
returns-then-not-can_turn-clause-carries g c = λ _.
    passed_over c.args.net.now c.args.dest c.args.turns.now c.args.work.now c.args.x
    (λ can. cc (c.can_turn.ensures.1 (rw (← c.counts.ensures) at can), c.if-not-can_turn.true))
