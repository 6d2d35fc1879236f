use Rattle.std.proofs.Common.{ap, ◌∙◌, ◌≡◌}
use Rattle.fr_bytes.specs.Lines.{lines_left, lines_of}
use Rattle.revdot.proofs.Asking.{at_start, one_line_more, all_asked}
use Rattle.revdot.proofs.answered_session.session_after.Goals as goal

pub loop-line-init : goal.loop-line-init
loop-line-init c =
    let all : lines_left c.into_iter-line-iterator.result ≡ lines_of c.args.input.now =
    ap lines_left c.into_iter-line-iterator.ensures.into_iter_gives ∙ c.new-line-items.ensures in
    at_start c.args.input.now (lines_left c.into_iter-line-iterator.result) c.new-session.result all
    c.new-session.ensures

pub loop-line-preserved : goal.loop-line-preserved
loop-line-preserved c =
    one_line_more c.args.input.now c.in-Some.line.now (lines_left c.loop-line.line-iterator)
    (lines_left c.next.new.self) c.loop-line.session c.answer_line.new.session
    c.in-Some.ensures.steps c.loop-line.invariant c.in_ok-answer_line.ensures

pub returns : goal.returns
returns c =
    all_asked c.args.input.now (lines_left c.loop-line.line-iterator) c.loop-line.session c.in-None.ensures.steps.0
    c.loop-line.invariant
