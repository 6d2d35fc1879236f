use Rattle.fr_round.specs.Knowledge.{IsOwn}
use Rattle.test_rounds.proofs.threads.walk_often.Given as goal

abbrev pub invariant-loop-walk : goal.invariant-loop-walk
invariant-loop-walk l = IsOwn l.round l.worker
