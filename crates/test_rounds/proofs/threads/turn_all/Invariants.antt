use Rattle.fr_round.specs.Knowledge.{IsOwn}
use Rattle.test_rounds.proofs.threads.turn_all.Given as goal

abbrev pub invariant-loop-pass : goal.invariant-loop-pass
invariant-loop-pass l = IsOwn l.round l.worker

abbrev pub invariant-loop-x : goal.invariant-loop-x
invariant-loop-x l = IsOwn l.round l.worker
