use Rattle.fr_round.specs.Knowledge.{IsOwn}
use Rattle.test_callers.proofs.rounds.turn_soon.Given as goal

abbrev pub invariant-loop-try : goal.invariant-loop-try
invariant-loop-try l = IsOwn l.round l.worker
