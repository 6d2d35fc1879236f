use Rattle.std.proofs.Common.{◌∷◌, [], ℕ, List, refl, subst}
use Rattle.fr_command.specs.Conversations.{Talk, Ends, talk_at, text_of}
use Rattle.fr_command.specs.Points.{AreAnswersIn}
use Rattle.fr_command.proofs.conversation.Conversation.end_line.Goals as goal

pub returns-in-Ok-clause-ends : goal.returns-in-Ok-clause-ends
returns-in-Ok-clause-ends g c =
    let form = c.self.inside.form in
    let old = c.self.inside.responder in
    let text : List ℕ = text_of c.in-Ok.answer in
    let new : Talk = talk_at form c.answer.new.self c.clear.new.self.items in
    let are = subst (λ (line : List ℕ). AreAnswersIn form old
    (line ∷ []) text c.answer.new.self) c.deref.ensures.value c.in-Ok.ensures.ok in
    let ends : Ends (talk_at form old c.self.inside.begun.items) text new = (are, c.clear.ensures.items, refl) in
    subst (λ (talk : Talk). Ends talk text new) c.self.view_is ends
