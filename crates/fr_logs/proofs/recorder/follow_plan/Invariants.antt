use Rattle.fr_logs.proofs.Following.{IsFollowing}
use Rattle.fr_logs.proofs.recorder.follow_plan.Given as goal

abbrev pub invariant-loop-target : goal.invariant-loop-target
invariant-loop-target l = IsFollowing l.round.setup l.fn.recorder l.plan l.target-index l.recorder
