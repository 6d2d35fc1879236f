use Rattle.std.proofs.Common.{take}
use Rattle.revdot.specs.Ends.{HaveEnds}
use Rattle.revdot.proofs.turns.ends_of.Given as goal

-- the ends of the links so far
abbrev pub invariant-loop-tail : goal.invariant-loop-tail
invariant-loop-tail l = HaveEnds l.nodes l.tails.items l.heads.items (take l.tail-index l.links)
