use Rattle.fr_round.proofs.Standing.{not_begun}
use Rattle.fr_round.proofs.round.Round.open.Goals as goal

pub returns-in-Ok-clause-not_begun : goal.returns-in-Ok-clause-not_begun
returns-in-Ok-clause-not_begun c =
    not_begun _ c.args.workers c.in-Ok.field-0.workers.items c.nodes.ensures.faultless.is_net c.in-Ok.ensures.workers
