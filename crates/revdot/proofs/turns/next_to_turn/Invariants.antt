use Rattle.std.proofs.Common.{ℕ, ◌<◌}
use Rattle.fr_core.specs.Legal.{CanTurn}
use Rattle.revdot.specs.Strips.{moment}
use Rattle.revdot.proofs.turns.next_to_turn.Given as goal

-- none of the nodes so far can turn
abbrev pub invariant-loop-x : goal.invariant-loop-x
invariant-loop-x l = (x : ℕ) → x < l.x → ¬ CanTurn l.nodes l.dest (moment l.links l.counts) x
