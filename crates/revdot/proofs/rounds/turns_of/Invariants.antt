use Rattle.revdot.proofs.Turning.{HaveTurned}
use Rattle.revdot.proofs.rounds.turns_of.Given as goal

abbrev pub invariant-loop-turn : goal.invariant-loop-turn
invariant-loop-turn l = HaveTurned l.router l.turn l.turns.items l.replay
