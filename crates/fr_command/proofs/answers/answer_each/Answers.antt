use Rattle.std.proofs.Common.{List, ℕ, ap, subst, ◌∙◌, ◌≡◌}
use Rattle.fr_bytes.specs.Lines.{lines_left, lines_of}
use Rattle.fr_bytes.proofs.Results.{handed_on}
use Rattle.fr_command.specs.InLines.{IsAnsweringFault}
use Rattle.fr_command.proofs.Progress.{HasAnswered, at_start, next_line, one_line_more, line_failed, all_answered}
use Rattle.fr_command.proofs.answers.answer_each.Goals as goal

pub loop-line-init : goal.loop-line-init
loop-line-init g c =
    let all : lines_left c.into_iter-line-iterator.result ≡ lines_of c.args.input.now =
    ap lines_left c.into_iter-line-iterator.ensures.into_iter_gives ∙ c.new-line-items.ensures in
    at_start c.args.form c.args.input.now (lines_left c.into_iter-line-iterator.result) c.args.responder.now
    (g.W.Write.contents c.args.writer.now) all c.requires

pub loop-line-preserved : goal.loop-line-preserved
loop-line-preserved g c =
    let left : List (List ℕ) = lines_left c.next.new.self in
    let h = next_line c.args.form c.args.input.now c.in-Some.line.now
    (lines_left c.loop-line.line-iterator) left c.loop-line.responder
    (g.W.Write.contents c.args.writer.now)
    (g.W.Write.contents c.loop-line.writer) c.in-Some.ensures.steps c.loop-line.invariant in
    let are = c.in_ok-answer_one.ensures.ok in
    one_line_more c.args.form c.args.input.now c.in-Some.line.now left c.loop-line.responder
    (g.W.Write.contents c.args.writer.now)
    (g.W.Write.contents c.loop-line.writer) h c.answer_one.new.responder
    (g.W.Write.contents c.answer_one.new.writer) are.0 are.1 are.2

pub returns-in_err-answer_one-clause-fault : goal.returns-in_err-answer_one-clause-fault
returns-in_err-answer_one-clause-fault g c =
    let left : List (List ℕ) = lines_left c.next.new.self in
    let h = next_line c.args.form c.args.input.now c.in-Some.line.now
    (lines_left c.loop-line.line-iterator) left c.loop-line.responder
    (g.W.Write.contents c.args.writer.now)
    (g.W.Write.contents c.loop-line.writer) c.in-Some.ensures.steps c.loop-line.invariant in
    let old = g.W.Write.contents c.args.writer.now in
    let new = g.W.Write.contents c.answer_one.new.writer in
    let fault = c.in_err-answer_one.field-0.0 in
    handed_on c.from_residual.result fault
    (IsAnsweringFault c.args.form c.args.input.now old new) c.from_residual.ensures.1
    (line_failed c.args.form c.args.input.now c.in-Some.line.now left c.loop-line.responder old
    (g.W.Write.contents c.loop-line.writer) h
    new fault c.in_err-answer_one.ensures.fault)

pub returns-clause-ok : goal.returns-clause-ok
returns-clause-ok g c =
    let none = c.in-None.ensures.steps in
    let h = subst (λ (ls : List (List ℕ)). HasAnswered c.args.form c.args.input.now ls c.loop-line.responder
    (g.W.Write.contents c.args.writer.now) (g.W.Write.contents c.loop-line.writer)) none.0 c.loop-line.invariant in
    all_answered c.args.form c.args.input.now c.loop-line.responder (g.W.Write.contents c.args.writer.now)
    (g.W.Write.contents c.loop-line.writer)
    c.tally.result h c.tally.ensures.answered c.tally.ensures.refused
