use Rattle.std.proofs.Common.{IfSome, List, Option, subst, sym, ℕ, ◌≡◌}
use Rattle.std.proofs.lemmas.Option.{IfSome_then}
use Rattle.fr_readers.specs.Answers.{AnswersLine}
use Rattle.fr_readers.specs.Inside.{pushes_in}
use Rattle.fr_readers.specs.Published.{HasWaysOf, Published, WayPushes, published}
use Rattle.fr_route.specs.States.{State}
use Rattle.fr_readers.specs.Publishing.{CanPublish, PublishesIn}
use Rattle.fr_readers.proofs.Leading.{can_publish}
use Rattle.fr_readers.proofs.Telling.{answer_keeps, answer_leads, line_answered}
use Rattle.fr_readers.proofs.session.PublishedSession.answer_line.Goals as goal

pub publish_rerouted_hops-requires-clause-can : goal.publish_rerouted_hops-requires-clause-can
publish_rerouted_hops-requires-clause-can c =
    let p = c.self.inside in
    let a = c.answer_line_telling_alone-answer in
    let by =
    answer_leads p.session a.new.self c.session_law.ensures c.session_law-2.ensures c.args.line.now a.result
    p.rerouted.items
    a.new.rerouted.items a.ensures.blank a.ensures.unchanged a.ensures.told in
    subst (λ (nodes : List ℕ). IfSome p.publisher (λ k. CanPublish k a.new.self nodes)) (sym c.deref.ensures.value)
    (IfSome_then p.publisher c.self.invariant.hops
    (can_publish p.session a.new.self c.session_law.ensures c.session_law-2.ensures a.new.rerouted.items by))

pub publish_ways-requires-clause-had : goal.publish_ways-requires-clause-had
publish_ways-requires-clause-had c = λ other.
    let p = c.self.inside in
    let a = c.answer_line_telling_alone-answer in
    let same : a.new.self ≡ p.session =
    answer_keeps p.session a.new.self c.args.line.now a.result a.ensures.blank a.ensures.text a.ensures.unchanged
    (c.is_round_report.ensures other) in
    subst (λ (s : Option State). IfSome p.ways (HasWaysOf s)) (sym same) c.self.invariant.ways

pub returns : goal.returns
returns c =
    let p = c.self.inside in
    let a = c.answer_line_telling_alone-answer in
    let t = c.publish_rerouted_hops.new.publisher in
    let w = c.publish_ways.new.tables in
    let ps : WayPushes = pushes_in p.reroutes in
    let table =
    subst (λ (nodes : List ℕ). PublishesIn p.publisher a.new.self nodes t) c.deref.ensures.value
    c.publish_rerouted_hops.ensures in
    rw c.publish_ways.ensures.same (subst (λ (old : Published). AnswersLine old c.args.line.now a.result
    (published a.new.self a.new.rerouted.items t w ps)) c.self.view_is
    (line_answered p.session a.new.self p.rerouted.items a.new.rerouted.items p.publisher t p.ways w ps
    c.self.invariant.hops table
    c.self.invariant.ways c.publish_ways.ensures.published c.args.line.now a.result
    a.ensures.blank a.ensures.text a.ensures.told a.ensures.unchanged a.ensures.short a.ensures.no_start))
