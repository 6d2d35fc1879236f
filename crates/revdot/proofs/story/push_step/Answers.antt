use Rattle.std.proofs.Common.{◌≡◌, ◌++◌, List, string_bytes, ℕ}
use Rattle.std.proofs.lemmas.Result.{on_ok_weaker}
use Rattle.revdot.specs.Stories.{IsMark}
use Rattle.revdot.proofs.Telling.{step_told}
use Rattle.revdot.proofs.story.push_step.Goals as goal

pub returns : goal.returns
returns c =
    let next = c.push_line.new.session in
    let block = c.in_ok-push_line.ensures in
    let one = string_bytes c.push_line.new.story in
    let last = string_bytes c.push_mark.new.story in
    on_ok_weaker c.push_mark.result
    (λ (mark : (out : List ℕ) × IsMark c.args.number next out × (last ≡ one ++ out)).
    step_told c.args.session.now next c.args.number c.args.line.now block.0 mark.0 (string_bytes c.args.story.now) one
    last
    block.1 mark.1 block.2 mark.2)
    c.push_mark.ensures
