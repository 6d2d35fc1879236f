use Rattle.fr_core.proofs.Settling.{settled_from_none}
use Rattle.fr_core.proofs.finisher.finish_if_few.Goals as goal

pub returns-then-turn_while_cheap-clause-settled : goal.returns-then-turn_while_cheap-clause-settled
returns-then-turn_while_cheap-clause-settled c =
    let net = c.args.net.now in
    let turned = c.turn_while_cheap in (
      λ none_left. settled_from_none net.nodes c.args.dest net.links c.network_law.ensures.is_net c.requires.node
          turned.new.turns turned.ensures.lawful (turned.ensures.none c.if-turn_while_cheap.true),
      λ settled. c.if-turn_while_cheap.true,
    )
