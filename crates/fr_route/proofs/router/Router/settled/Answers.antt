use Rattle.std.proofs.Common.{subst, sym}
use Rattle.fr_core.proofs.Unique.{settled_lawful}
use Rattle.fr_graph.specs.Network.{Network}
use Rattle.fr_route.specs.States.{IsAfterRound, state_with}
use Rattle.fr_route.proofs.CutNodes.{after_outcome}
use Rattle.fr_route.proofs.router.Router.settled.Goals as goal

pub turn-requires-clause-kept : goal.turn-requires-clause-kept
turn-requires-clause-kept c =
    let net = c.args.net in
    (settled_lawful net.nodes c.args.dest net.links c.network_law.ensures.is_net c.requires.destination c.args.turns
    c.requires.settled).kept

pub after-requires : goal.after-requires
after-requires c =
    subst (λ (m : Network). IsAfterRound (state_with m c.args.dest c.args.turns)) (sym c.turn.ensures.is)
    (after_outcome c.args.net c.args.dest c.args.turns c.network_law.ensures.is_net c.requires)
