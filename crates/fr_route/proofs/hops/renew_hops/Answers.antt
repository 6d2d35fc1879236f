use Rattle.fr_route.specs.Outcomes.{state_after}
use Rattle.fr_route.specs.States.{State}
use Rattle.fr_route.proofs.ChangedHops.{notes_then}
use Rattle.fr_route.proofs.hops.renew_hops.Goals as goal

pub returns-clause-noted : goal.returns-clause-noted
returns-clause-noted c =
    let s : State = state_after c.args.round.now in
    notes_then s c.args.hops.now c.renew_turned.new.hops c.renew_listed.new.hops c.args.told.now c.renew_turned.new.told
    c.renew_listed.new.told c.renew_turned.auto.hops c.renew_turned.ensures.noted
    c.renew_listed.ensures.noted
