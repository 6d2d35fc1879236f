use Rattle.fr_round.specs.Setups.{setup_of}
use Rattle.fr_round.specs.Calls.{IsUnderWay}
use Rattle.fr_round.specs.Callers.{Stays}
use Rattle.fr_round.proofs.turn_call.CallingWorker.find_holder.Given as goal

abbrev pub invariant-loop-entry : goal.invariant-loop-entry
invariant-loop-entry l = record {
  stays : Stays l.words l.fn.self l.self;
  call : IsUnderWay (setup_of l.words.round_setup) l.fn.self.seat.me.0 l.x l.c l.entry-index l.self.seat.me.0;
}
