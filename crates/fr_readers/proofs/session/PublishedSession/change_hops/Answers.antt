use Rattle.std.proofs.Common.{IfSome, List, None, Option, Some, ap, subst, sym, ℕ, ◌∙◌, ◌≡◌}
use Rattle.std.proofs.lemmas.Option.{IfSome_then}
use Rattle.fr_route.specs.States.{State}
use Rattle.fr_readers.specs.Answers.{MakesChange}
use Rattle.fr_readers.specs.Inside.{pushes_in}
use Rattle.fr_readers.specs.Published.{HasHopsOf, HasWaysOf, Published, WayPushes, published}
use Rattle.fr_readers.specs.Publishing.{CanPublish, IsSettledSession, PublishesIn, PublishesWaysIn}
use Rattle.fr_shared.specs.WayTables.{WayKnowledge}
use Rattle.fr_readers.proofs.FirstWays.{ways_stay}
use Rattle.fr_readers.proofs.Leading.{can_publish}
use Rattle.fr_readers.proofs.Telling.{change_leads, change_made, router_changed, same_pushes}
use Rattle.fr_readers.proofs.session.PublishedSession.change_hops.Goals as goal

pub publish_rerouted_hops-requires-clause-can : goal.publish_rerouted_hops-requires-clause-can
publish_rerouted_hops-requires-clause-can c =
    let p = c.self.inside in
    let r = c.in_ok-router.router.now in
    let a = c.change_telling_alone-answer in
    let is = c.in_ok-router.ensures.value in
    let settled = subst IsSettledSession is c.session_law.ensures in
    let by = change_leads r a.new.self settled c.args.change a.result p.rerouted.items a.new.rerouted.items
    (router_changed a.ensures.changed a.ensures.report a.ensures.fault a.ensures.unchanged a.ensures.no_start)
    a.ensures.told in
    let has = subst (λ (s : Option State). IfSome p.publisher (HasHopsOf s)) is c.self.invariant.hops in
    subst (λ (nodes : List ℕ). IfSome p.publisher (λ k. CanPublish k (Some a.new.self) nodes))
    (sym c.deref.ensures.value)
    (IfSome_then p.publisher has
    (can_publish (Some r) (Some a.new.self) settled c.session_law-2.ensures a.new.rerouted.items by))

pub returns-clause-changes : goal.returns-clause-changes
returns-clause-changes c =
    let p = c.self.inside in
    let r = c.in_ok-router.router.now in
    let a = c.change_telling_alone-answer in
    let t = c.publish_rerouted_hops.new.publisher in
    let is = c.in_ok-router.ensures.value in
    let has = subst (λ (s : Option State). IfSome p.publisher (HasHopsOf s)) is c.self.invariant.hops in
    let table = subst (λ (nodes : List ℕ). PublishesIn p.publisher
    (Some a.new.self) nodes t) c.deref.ensures.value c.publish_rerouted_hops.ensures in
    let w = p.ways in
    let none : p.ways ≡ None = ap (λ (q : Published). q.ways) c.self.view_is ∙ c.requires in
    let stays : PublishesWaysIn w (Some a.new.self) w =
    ways_stay w (Some a.new.self)
    (subst (λ (v : Option WayKnowledge). IfSome v (HasWaysOf (Some a.new.self))) (sym none) tt) in
    let had = subst (λ (s : Option State). IfSome p.ways (HasWaysOf s)) is c.self.invariant.ways in
    let ps : WayPushes = pushes_in p.reroutes in
    let new : Published = published (Some a.new.self) a.new.rerouted.items t w ps in
    subst (λ (old : Published). MakesChange old c.args.change
    (Some a.result) new) c.self.view_is
    (subst (λ (s : Option State). MakesChange (published s p.rerouted.items p.publisher p.ways ps) c.args.change
    (Some a.result) new) (sym is)
    (change_made r a.new.self p.rerouted.items a.new.rerouted.items p.publisher t p.ways w ps ps has table had
    stays c.args.change a.result
    (router_changed a.ensures.changed a.ensures.report a.ensures.fault a.ensures.unchanged a.ensures.no_start)
    a.ensures.told (same_pushes a.result ps)))
