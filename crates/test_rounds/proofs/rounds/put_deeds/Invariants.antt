use Rattle.fr_round.specs.Knowledge.{IsOwn}
use Rattle.test_rounds.proofs.rounds.put_deeds.Given as goal

abbrev pub invariant-loop-deed : goal.invariant-loop-deed
invariant-loop-deed l = IsOwn l.round l.worker
