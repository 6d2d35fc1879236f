use Rattle.std.proofs.Common.{◌∙◌, ◌++◌, ◌∷◌, [], ℕ, List, if◌then◌else◌, string_bytes, subst}
use Rattle.fr_requests.specs.Requests.{reading}
use Rattle.fr_route.specs.Forms.{IsAnswerIn}
use Rattle.fr_command.specs.Points.{Point, AreAnswersIn, one_more}
use Rattle.fr_command.proofs.AnswersIn.{answered_line}
use Rattle.fr_command.proofs.responder.Responder.answer.Goals as goal

pub returns-in-Some-clause-ok : goal.returns-in-Some-clause-ok
returns-in-Some-clause-ok g c =
    let form = c.args.form in
    let line : List ℕ = c.args.line.now in
    let text : List ℕ = string_bytes c.in-Some.answer.text in
    let is_refused = c.in-Some.answer.refused in
    let next = c.answer_line_in.new.self in
    let counted = c.saturating_add-number.ensures in
    let old : Point = record {
      state = c.self.inside.session;
      ended = c.self.inside.ended;
      answered = c.self.inside.answered;
      refused = c.self.inside.refused;
    } in
    let told = rw c.in-Some.is at c.in_ok-answer.ensures.answer in
    let refuses = rw c.in-Some.is at c.in_ok-answer.ensures.refused in
    let is = subst (λ (n : ℕ). IsAnswerIn form n old.state (reading line) text next) counted told.1 in
    let point = c.count_answer.ensures ∙ (λ i. record {
      state = next;
      ended = counted i;
      answered = one_more old.answered;
      refused = if is_refused then one_more old.refused else old.refused;
    }) in
    subst (λ (p : Point). AreAnswersIn form p (line ∷ []) (text ++ 10 ∷ []) c.count_answer.new.self) c.self.view_is
    (answered_line form line text is_refused next old c.count_answer.new.self told.0 (is, refuses) point)
