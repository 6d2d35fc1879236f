use Rattle.std.proofs.Common.{string_bytes}
use Rattle.fr_bytes.specs.Lines.{lines_left}
use Rattle.revdot.proofs.Telling.{HasTold}
use Rattle.revdot.proofs.story.push_story.Given as goal

abbrev pub invariant-loop-line : goal.invariant-loop-line
invariant-loop-line l =
    HasTold l.input (lines_left l.line-iterator) l.session l.number (string_bytes l.fn.story) (string_bytes l.story)
