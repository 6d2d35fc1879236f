use Rattle.std.proofs.Common.{◌<◌, ℕ, ap, subst}
use Rattle.fr_graph.specs.Network.{Network}
use Rattle.std.proofs.lemmas.Result.{IfOk-weaker, err_from_is_err_and}
use Rattle.fr_route.proofs.Opening.{new_fault, opening_fault}
use Rattle.fr_route.proofs.RoundEnds.{round_listed}
use Rattle.fr_route.proofs.settling.Settler.open_network.Goals as goal

pub returns-in_err-net-clause-refused : goal.returns-in_err-net-clause-refused
returns-in_err-net-clause-refused g c =
    let p = err_from_is_err_and c.from_residual.result c.from_residual.ensures.1 in
    rw (p.1, p.2) (new_fault c.args.nodes c.args.dest c.args.links.now c.in_err-net.field-0.0
    c.in_err-net.ensures.refused c.in_err-net.ensures.names)

pub returns-clause-accepted : goal.returns-clause-accepted
returns-clause-accepted g c =
    let made = c.in_ok-net.ensures.ok in
    let net : Network = c.in_ok-net.net in
    IfOk-weaker c.open.result _ _
    (λ router opened.
    let below : c.args.dest < c.args.nodes =
    subst (λ (n : ℕ). c.args.dest < n) (ap (λ (m : Network). m.nodes) made.is) opened.0 in
    (made.faultless, below, round_listed c.args.nodes c.args.dest c.args.links.now net router made opened.1))
    c.open.ensures.opened

pub returns-clause-refused : goal.returns-clause-refused
returns-clause-refused g c =
    opening_fault _ c.args.nodes c.args.dest c.args.links.now c.in_ok-net.net c.open.result c.in_ok-net.ensures.ok
    c.open.ensures.fault
