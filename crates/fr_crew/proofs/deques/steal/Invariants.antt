use Rattle.crossbeam_deque.specs.Handles.{IsPassOf, stealer_deque}
use Rattle.fr_crew.proofs.deques.steal.Given as goal

-- the pass is one of this deque
abbrev pub invariant-loop : goal.invariant-loop
invariant-loop g l = IsPassOf (stealer_deque l.stealer) l.pass
