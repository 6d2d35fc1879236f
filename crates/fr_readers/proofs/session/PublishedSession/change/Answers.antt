use Rattle.std.proofs.Common.{ap, subst, sym, ◌∙◌}
use Rattle.fr_readers.specs.Answers.{MakesChange}
use Rattle.fr_readers.specs.Inside.{published_in}
use Rattle.fr_readers.specs.Published.{Published, WayPushes}
use Rattle.fr_readers.proofs.session.PublishedSession.change.Goals as goal

pub returns-clause-changes : goal.returns-clause-changes
returns-clause-changes c =
    let p : Published = published_in c.self.inside in
    let answer = c.change_ways-answer.result in
    subst (λ (new : Published). MakesChange c.args.self.now c.args.change answer new) (sym c.self-2.view_is)
    (subst (λ (old : Published). MakesChange old c.args.change answer c.change_ways-answer.new.self) c.self.view_is
    c.change_ways-answer.ensures.changes)

pub returns-clause-pushes : goal.returns-clause-pushes
returns-clause-pushes c =
    let pushes : Published → WayPushes = λ p. p.pushes in
    ap pushes c.self-2.view_is ∙ (c.change_ways-answer.ensures.pushes ∙ ap pushes c.self.view_is)
