use Rattle.fr_round.specs.Knowledge.{IsOwn}
use Rattle.test_rounds.proofs.threads.turn_until.Given as goal

abbrev pub invariant-loop : goal.invariant-loop
invariant-loop l = IsOwn l.round l.worker
