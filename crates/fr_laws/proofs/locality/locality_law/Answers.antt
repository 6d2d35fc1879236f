use Rattle.fr_laws.proofs.ChangeRounds.{begins_below, begins_net, change_round, round_changes}
use Rattle.fr_laws.proofs.AfterAdds.{add_spares, join_spares}
use Rattle.fr_laws.proofs.AfterCuts.{cut_spares}
use Rattle.fr_laws.proofs.TurnsAfter.{links_between, who_turns}
use Rattle.fr_laws.proofs.locality.locality_law.Goals as goal

pub returns-clause-round : goal.returns-clause-round
returns-clause-round c = λ s change new after.
    (change_round s change new after, λ h. round_changes s change h.0 h.1 new h.2.begins h.2.round)

pub returns-clause-turns : goal.returns-clause-turns
returns-clause-turns c = λ s change first d new x h.
    let net = begins_net s change first d h.settled h.begins in
    who_turns s.nodes d first new net (begins_below s change first d h.settled h.begins) h.round x

pub returns-clause-links : goal.returns-clause-links
returns-clause-links c = λ s change first d new x y h.
    let net = begins_net s change first d h.settled h.begins in
    links_between s.nodes d first new net (begins_below s change first d h.settled h.begins) h.round x y

pub returns-clause-added : goal.returns-clause-added
returns-clause-added c = add_spares

pub returns-clause-joined : goal.returns-clause-joined
returns-clause-joined c = join_spares

pub returns-clause-cut : goal.returns-clause-cut
returns-clause-cut c = cut_spares
