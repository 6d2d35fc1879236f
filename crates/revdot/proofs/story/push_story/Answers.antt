use Rattle.std.proofs.Common.{ap, string_bytes, ◌∙◌, ◌≡◌}
use Rattle.fr_bytes.specs.Lines.{lines_left, lines_of}
use Rattle.revdot.proofs.Telling.{at_start, next_line, one_line_more, all_told}
use Rattle.revdot.proofs.story.push_story.Goals as goal

pub loop-line-init : goal.loop-line-init
loop-line-init c =
    let all : lines_left c.into_iter-line-iterator.result ≡ lines_of c.args.input.now =
    ap lines_left c.into_iter-line-iterator.ensures.into_iter_gives ∙ c.new-line-items.ensures in
    at_start c.args.input.now (lines_left c.into_iter-line-iterator.result) c.new-session.result
    (string_bytes c.args.story.now) all c.new-session.ensures

pub loop-line-preserved : goal.loop-line-preserved
loop-line-preserved c =
    let old = string_bytes c.args.story.now in
    let new = string_bytes c.loop-line.story in
    let left = lines_left c.next.new.self in
    let h = next_line c.args.input.now c.in-Some.line.now (lines_left c.loop-line.line-iterator)
    left c.loop-line.session c.loop-line.number old new c.in-Some.ensures.steps c.loop-line.invariant in
    let told = c.in_ok-push_step.ensures in
    one_line_more c.args.input.now c.in-Some.line.now left c.loop-line.session c.push_step.new.session
    c.loop-line.number
    old new (string_bytes c.push_step.new.story) told.0 h told.1 told.2

pub returns : goal.returns
returns c =
    all_told c.args.input.now (lines_left c.loop-line.line-iterator) c.loop-line.session c.loop-line.number
    (string_bytes c.args.story.now) (string_bytes c.loop-line.story)
    c.in-None.ensures.steps.0 c.loop-line.invariant
