use Rattle.std.proofs.Common.{◌∙◌, ap}
use Rattle.fr_command.specs.Points.{Point, one_more}
use Rattle.fr_command.proofs.responder.Responder.count_answer.Goals as goal

pub returns-then-is_refused : goal.returns-then-is_refused
returns-then-is_refused c = rw c.if-is_refused.true ((λ i. record {
  state = c.self.inside.session;
  ended = c.self.inside.ended;
  answered = c.saturating_add-self-inside.ensures i;
  refused = c.saturating_add-self-inside-then-is_refused.ensures i;
}) ∙ ap (λ (p : Point). record p { answered = one_more p.answered; refused = one_more p.refused }) c.self.view_is)

pub returns-else-is_refused : goal.returns-else-is_refused
returns-else-is_refused c = rw c.if-is_refused.false ((λ i. record {
  state = c.self.inside.session;
  ended = c.self.inside.ended;
  answered = c.saturating_add-self-inside.ensures i;
  refused = c.self.inside.refused;
}) ∙ ap (λ (p : Point). record p { answered = one_more p.answered }) c.self.view_is)
