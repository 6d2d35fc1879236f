use Rattle.std.proofs.Common.{inl}
use Rattle.std.proofs.lemmas.Result.{IfErr-weaker, IfOk-weaker}
use Rattle.fr_command.proofs.programs.program.Goals as goal

pub returns-in-Ok-clause-done : goal.returns-in-Ok-clause-done
returns-in-Ok-clause-done g c =
    IfOk-weaker c.perform_task.result _ _ (λ status done. inl (c.in-Ok.line, c.in-Ok.ensures.ok, done))
    c.perform_task.ensures.done

pub returns-in-Ok-clause-failed : goal.returns-in-Ok-clause-failed
returns-in-Ok-clause-failed g c =
    IfErr-weaker c.perform_task.result _ _ (λ why failed. inl (c.in-Ok.line, c.in-Ok.ensures.ok, failed))
    c.perform_task.ensures.failed
