use Rattle.std.proofs.Common.{string_bytes}
use Rattle.revdot.proofs.Turning.{HasTurned}
use Rattle.revdot.proofs.strips.push_turns.Given as goal

abbrev pub invariant-loop-turn : goal.invariant-loop-turn
invariant-loop-turn l = HasTurned l.direction l.router l.turn l.replay (string_bytes l.fn.text) (string_bytes l.text)
