use Rattle.std.proofs.Common.{List, subst, sym, ◌∙◌}
use Rattle.std.specs.List.{AllByRecursion as Each}
use Rattle.fr_round.specs.Closing.{Closes}
use Rattle.fr_round.specs.Knowledge.{IsOwn, Knowledge}
use Rattle.fr_round.proofs.StepsKeepTheRule.{each_mapped}
use Rattle.fr_logs.specs.Logged.{IsOwnRecorder}
use Rattle.fr_logs.specs.Recording.{Recording}
use Rattle.fr_logs.proofs.Parting.{logs_are}
use Rattle.fr_logs.proofs.closing.close_logged.Goals as goal

pub close-requires-clause-own : goal.close-requires-clause-own
close-requires-clause-own c =
    subst (λ (ws : List Knowledge). Each (IsOwn c.args.round) ws) (sym c.split_recorders-workers.ensures.workers)
    (each_mapped (IsOwnRecorder c.args.round) (IsOwn c.args.round) (λ (r : Recording). r.worker)
    (λ r own. own) c.args.recorders.items c.requires.own)

pub returns-in-Ok-clause-logged : goal.returns-in-Ok-clause-logged
returns-in-Ok-clause-logged c =
    let closes = subst
    (λ (ws : List Knowledge). Closes c.args.round ws c.close.result.counts.items c.close.result.turned.items)
    c.split_recorders-workers.ensures.workers c.close.ensures.history in record {
      closes = closes;
      logs = c.split_recorders-workers.ensures.logs ∙ logs_are closes.history c.args.recorders.items closes.parts;
    }
