use Rattle.std.proofs.Common.{◌<◌, length}
use Rattle.fr_crew.proofs.deques.Deque.steal_from_each.Given as goal

-- the place is one of a deque
abbrev pub invariant-loop : goal.invariant-loop
invariant-loop g l = l.at < length l.stealers
