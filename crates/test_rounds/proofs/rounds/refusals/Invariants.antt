use Rattle.fr_round.specs.Knowledge.{IsOwn}
use Rattle.test_rounds.proofs.rounds.refusals.Given as goal

abbrev pub invariant-loop-time : goal.invariant-loop-time
invariant-loop-time l = IsOwn l.round l.worker

abbrev pub invariant-loop-target : goal.invariant-loop-target
invariant-loop-target l = IsOwn l.round l.worker
