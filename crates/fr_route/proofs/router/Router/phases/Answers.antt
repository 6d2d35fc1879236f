use Rattle.std.proofs.Common.{arith, subst}
use Rattle.fr_graph.specs.Links.{IsNet}
use Rattle.fr_route.specs.States.{State}
use Rattle.fr_route.proofs.WayPushes.{ways_in_range}
use Rattle.fr_route.proofs.router.Router.phases.Goals as goal

pub known_phases-requires-clause-range : goal.known_phases-requires-clause-range
known_phases-requires-clause-range c =
    let net = subst (λ (s : State). IsNet s.nodes s.links) c.self.view_is c.network_law.ensures.is_net in
    ways_in_range c.args.self.now net c.args.self.now.nodes c.in_ok-wanted.wanted (omega arith) c.in_ok-wanted.ensures
