use Rattle.std.proofs.Common.{subst, sym}
use Rattle.fr_round.specs.declared.view.Setup.{Setup}
use Rattle.fr_crew.specs.Candidates.{IsCandidate}
use Rattle.fr_crew.proofs.Candidates.{candidate_not_refused}
use Rattle.fr_crew.proofs.threads.try_candidate.Goals as goal

pub unreachable-requires-in-Err : goal.unreachable-requires-in-Err
unreachable-requires-in-Err g c =
    let candidate = subst (λ (s : Setup). IsCandidate s c.args.x) (sym c.requires.named) c.requires.candidate in
    candidate_not_refused c.args.job.now.round.setup c.args.x c.in-Err.field-0 candidate c.in-Err.ensures.refused.0
