use Rattle.std.proofs.Common.{◌<◌, ℕ, ap, map, subst}
use Rattle.fr_graph.specs.Network.{Network}
use Rattle.fr_route.proofs.RoundEnds.{round_listed}
use Rattle.revroute_c.specs.Records.{link_of}
use Rattle.revroute_c.proofs.rounds.NewNetwork.open_router.Goals as goal

pub returns-in-Ok-clause-accepted : goal.returns-in-Ok-clause-accepted
returns-in-Ok-clause-accepted c =
    let asked = c.args.self.now in
    let net : Network = c.in_ok-net.net in
    let made = c.in_ok-net.ensures.ok in
    let opened = c.in-Ok.ensures.opened in
    let below : asked.dest < asked.nodes =
    subst (λ (n : ℕ). asked.dest < n) (ap (λ (m : Network). m.nodes) made.is) opened.0 in (
      made.faultless,
      below,
      round_listed asked.nodes asked.dest (map link_of asked.links.now) net c.in-Ok.router made opened.1,
    )
