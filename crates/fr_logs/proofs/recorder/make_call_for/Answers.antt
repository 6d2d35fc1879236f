use Rattle.std.proofs.Common.{IfOk, sym, subst}
use Rattle.std.proofs.lemmas.Result.{IfOk-weaker}
use Rattle.fr_core.specs.declared.targets.Target.{Target}
use Rattle.fr_core.specs.declared.targets.Target.TheVariants.{Look, Turn}
use Rattle.fr_logs.specs.Recording.{IsRefused}
use Rattle.fr_logs.proofs.Following.{look_not_refused, turn_not_refused}
use Rattle.fr_logs.proofs.recorder.make_call_for.Goals as goal

pub returns-in-Turn-clause-accepted : goal.returns-in-Turn-clause-accepted
returns-in-Turn-clause-accepted c =
    let b = c.args.round.now.setup in
    subst (λ (t : Target). IfOk c.try_turn.result (λ _. ¬ IsRefused b t)) (sym c.in-Turn.is)
    (IfOk-weaker c.try_turn.result _ (λ _. ¬ IsRefused b (Turn c.in-Turn.x))
    (λ _ may. turn_not_refused b c.in-Turn.x may) c.try_turn.ensures.decided)

pub returns-in-Look-clause-accepted : goal.returns-in-Look-clause-accepted
returns-in-Look-clause-accepted c =
    let b = c.args.round.now.setup in
    subst (λ (t : Target). IfOk c.look.result (λ _. ¬ IsRefused b t)) (sym c.in-Look.is)
    (IfOk-weaker c.look.result _ (λ _. ¬ IsRefused b (Look c.in-Look.x))
    (λ _ may. look_not_refused b c.in-Look.x may) c.look.ensures.decided)
