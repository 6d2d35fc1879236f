use Rattle.std.proofs.Common.{◌≡◌, ◌++◌, List, string_bytes, ℕ}
use Rattle.std.proofs.lemmas.Result.{on_ok_weaker}
use Rattle.fr_requests.specs.declared.requests.Question.TheVariants.{Ways}
use Rattle.revdot.specs.Stories.{IsAnswerLine}
use Rattle.revdot.proofs.Telling.{settled_told}
use Rattle.revdot.proofs.rounds.push_settled_lines.Goals as goal

pub returns : goal.returns
returns c =
    let s = c.args.session.now in
    let links = c.in_ok-push_answer_to.ensures in
    let counts = c.in_ok-push_answer_to-2.ensures in
    let hops = c.in_ok-push_answer_to-3.ensures in
    let one = string_bytes c.push_answer_to.new.story in
    let two = string_bytes c.push_answer_to-2.new.story in
    let more = string_bytes c.push_answer_to-3.new.story in
    let last = string_bytes c.push_answer_to-4.new.story in
    on_ok_weaker c.push_answer_to-4.result
    (λ (ways : (out : List ℕ) × IsAnswerLine s Ways out × (last ≡ more ++ out)).
    settled_told s links.0 counts.0 hops.0 ways.0 (string_bytes c.args.story.now) one two more last links.1 counts.1
    hops.1 ways.1
    links.2 counts.2 hops.2 ways.2)
    c.push_answer_to-4.ensures
