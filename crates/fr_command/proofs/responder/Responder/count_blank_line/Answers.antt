use Rattle.std.proofs.Common.{◌∙◌, ap}
use Rattle.fr_command.specs.Points.{after_blank}
use Rattle.fr_command.proofs.responder.Responder.count_blank_line.Goals as goal

pub returns : goal.returns
returns c =
    (λ i. record {
      state = c.self.inside.session;
      ended = c.saturating_add-self-inside.ensures i;
      answered = c.self.inside.answered;
      refused = c.self.inside.refused;
    }) ∙ ap after_blank c.self.view_is
