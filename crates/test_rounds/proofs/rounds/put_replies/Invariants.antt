use Rattle.fr_round.specs.Knowledge.{IsOwn}
use Rattle.test_rounds.proofs.rounds.put_replies.Given as goal

abbrev pub invariant-loop-worker : goal.invariant-loop-worker
invariant-loop-worker l = IsOwn l.round l.a × IsOwn l.round l.b
