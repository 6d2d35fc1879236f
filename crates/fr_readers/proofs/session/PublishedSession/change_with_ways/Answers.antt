use Rattle.std.proofs.Common.{IfOk, IfSome, Option, ap, subst, sym}
use Rattle.fr_route.specs.States.{State}
use Rattle.fr_readers.specs.Answers.{MakesChange, Notes}
use Rattle.fr_readers.specs.Inside.{published_in, pushes_in}
use Rattle.fr_readers.specs.Published.{LeadsBetween, Published, WayPushes}
use Rattle.fr_readers.proofs.Telling.{with_pushes}
use Rattle.fr_readers.proofs.session.PublishedSession.change_with_ways.Goals as goal

pub returns-clause-changes : goal.returns-clause-changes
returns-clause-changes c =
    let p = c.self.inside in
    let q = c.self-2.inside in
    let a = c.change_ways-answer in
    let before : WayPushes = pushes_in p.reroutes in
    let after : WayPushes = pushes_in a.new.reroutes in
    let old : Published = published_in (record p { reroutes = c.take-reroutes.new.self }) in
    let made = subst (λ (new : Published). MakesChange old c.args.change a.result new) (sym c.self-2.view_is)
    a.ensures.changes in
    let noted = subst (λ (ps : WayPushes). Notes p.session a.result a.new.self.session ps after)
    (ap (λ r. pushes_in r) c.take-reroutes.ensures.value) a.ensures.noted in
    subst (λ (o : Published). MakesChange o c.args.change a.result (record (published_in q) { pushes = after }))
    c.self.view_is
    (with_pushes old (published_in q) c.args.change a.result before after made noted.none noted.fault)

pub returns-clause-pushes : goal.returns-clause-pushes
returns-clause-pushes c =
    let a = c.change_ways-answer in
    let session : Published → Option State = λ p. p.session in
    let after : WayPushes = pushes_in a.new.reroutes in
    subst (λ (s : Option State). IfSome a.result
    (λ made. IfOk made (λ _. LeadsBetween c.args.self.now.session s after)))
    (sym (ap session c.self-2.view_is))
    (subst (λ (s : Option State). IfSome a.result (λ made. IfOk made (λ _. LeadsBetween s a.new.self.session after)))
    (ap session c.self.view_is) a.ensures.noted.made)
