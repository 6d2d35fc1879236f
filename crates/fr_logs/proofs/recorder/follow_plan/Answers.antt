use Rattle.std.proofs.Common.{get_or, refl}
use Rattle.fr_core.specs.declared.targets.Target.TheVariants.{Turn}
use Rattle.fr_logs.proofs.Following.{following_next}
use Rattle.fr_logs.proofs.recorder.follow_plan.Goals as goal

pub loop-target-preserved : goal.loop-target-preserved
loop-target-preserved c =
    let plan = c.args.plan.now in
    let made = c.loop-target.target-index in
    following_next c.args.round.now.setup c.args.recorder.now plan made c.loop-target.recorder c.loop-target.invariant
    (Turn 0) (get_or plan made (Turn 0)) c.loop-target-test.true refl
    c.call.result c.call.new.self c.call.ensures.records c.call.ensures.fault
