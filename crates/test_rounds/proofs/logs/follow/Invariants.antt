use Rattle.fr_logs.specs.Logged.{IsOwnRecorder}
use Rattle.test_rounds.proofs.logs.follow.Given as goal

abbrev pub invariant-loop-target : goal.invariant-loop-target
invariant-loop-target l = IsOwnRecorder l.round l.noted.recorder
