use Rattle.std.proofs.Common.{◌≡◌, ◌∙◌, suc, ◌+◌, arith}
use Rattle.fr_cli.specs.Draws.{seeded}
use Rattle.fr_cli.proofs.DrawnSteps.{draws-start, draws-step, draws-all}
use Rattle.fr_cli.proofs.draws.Draw.schedule.Goals as goal

pub loop-step-init : goal.loop-step-init
unfolding seeded
loop-step-init c k = draws-start _ _ _ k _ c.in_ok-schedule.ensures.items c.seed_from_u64-generator.ensures

pub loop-step-preserved : goal.loop-step-preserved
loop-step-preserved c k =
    let more : c.loop-step._step + 1 + k ≡ c.loop-step._step + suc k = omega arith in
    rw (more, c.in_ok-push.ensures.items) (c.loop-step.invariant (suc k) ∙ draws-step _ _ _ _ k _ c.next_word.ensures)

pub returns : goal.returns
returns c = draws-all _ _ _ _ _ _ (omega arith) (c.loop-step.invariant 0)
