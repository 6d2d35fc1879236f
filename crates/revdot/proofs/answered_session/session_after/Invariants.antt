use Rattle.fr_bytes.specs.Lines.{lines_left}
use Rattle.revdot.proofs.Asking.{IsAsked}
use Rattle.revdot.proofs.answered_session.session_after.Given as goal

abbrev pub invariant-loop-line : goal.invariant-loop-line
invariant-loop-line l = IsAsked l.input (lines_left l.line-iterator) l.session
