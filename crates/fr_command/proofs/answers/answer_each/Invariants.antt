use Rattle.fr_bytes.specs.Lines.{lines_left}
use Rattle.fr_command.proofs.Progress.{HasAnswered}
use Rattle.fr_command.proofs.answers.answer_each.Given as goal

abbrev pub invariant-loop-line : goal.invariant-loop-line
invariant-loop-line g l = HasAnswered l.form l.input (lines_left l.line-iterator) l.responder
    (g.W.Write.contents l.fn.writer) (g.W.Write.contents l.writer)
