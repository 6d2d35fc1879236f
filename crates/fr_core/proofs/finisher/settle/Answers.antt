use Rattle.fr_core.proofs.Settling.{settled_from_none}
use Rattle.fr_core.proofs.finisher.settle.Goals as goal

pub returns-else-not-turn_all_while_cheap : goal.returns-else-not-turn_all_while_cheap
returns-else-not-turn_all_while_cheap c =
    let net = c.args.net.now in
    let turned = c.turn_all_while_cheap in
    settled_from_none net.nodes c.args.dest net.links c.requires.net c.requires.node turned.new.turns
    turned.ensures.lawful
    (turned.ensures.none c.if-not-turn_all_while_cheap.false)
