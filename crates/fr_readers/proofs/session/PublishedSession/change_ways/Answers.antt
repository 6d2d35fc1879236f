use Rattle.std.proofs.Common.{Bool, IfOk, IfSome, List, Option, Some, ap, subst, sym, ℕ, ◌∙◌, ◌≡◌}
use Rattle.std.specs.Prelude.{MatchBool}
use Rattle.std.proofs.lemmas.Option.{IfSome_then}
use Rattle.fr_route.specs.Reroutes.{TellsRerouted}
use Rattle.fr_route.specs.States.{State}
use Rattle.fr_route.specs.WayPushes.{AreWayChanges}
use Rattle.fr_readers.specs.Answers.{ChangesRouter, MakesChange, Notes}
use Rattle.fr_readers.specs.Inside.{pushes_in}
use Rattle.fr_readers.specs.Published.{HasHopsOf, HasWaysOf, Published, WayPushes, published}
use Rattle.fr_readers.specs.Publishing.{AlterWays, CanPublish, IsSettledSession, PublishesIn}
use Rattle.fr_readers.specs.Publishing.{PublishesWaysIn}
use Rattle.fr_shared.specs.WayTables.{last_ways}
use Rattle.fr_readers.proofs.Leading.{can_publish}
use Rattle.fr_readers.proofs.Telling.{change_alters, change_leads, change_made, change_notes, same_pushes}
use Rattle.fr_readers.proofs.session.PublishedSession.change_ways.Goals as goal

pub publish_changes-requires : goal.publish_changes-requires
publish_changes-requires c =
    let p = c.self.inside in
    let r = c.in_ok-router.router.now in
    let a = c.change_and_note-answer in
    let ps : WayPushes = pushes_in a.new.reroutes in
    let had = subst (λ (s : Option State). IfSome p.ways (HasWaysOf s)) c.in_ok-router.ensures.value
    c.self.invariant.ways in
    subst (λ (made : Bool). IfSome p.ways (λ k. MatchBool made (AlterWays (last_ways k) a.new.router ps)
    (HasWaysOf (Some a.new.router) k))) (sym c.is_ok.ensures.value)
    (IfSome_then p.ways had
    (λ k has. change_alters r a.new.router c.args.change a.result ps k has a.ensures.changes a.ensures.ways))

pub publish_rerouted_hops-requires-clause-can : goal.publish_rerouted_hops-requires-clause-can
publish_rerouted_hops-requires-clause-can c =
    let p = c.self.inside in
    let r = c.in_ok-router.router.now in
    let a = c.change_and_note-answer in
    let next : State = c.publish_changes.new.router in
    let same : a.new.router ≡ next = sym c.publish_changes.ensures.same in
    let is = c.in_ok-router.ensures.value in
    let settled = subst IsSettledSession is c.session_law.ensures in
    let changes = subst (λ (t : State). ChangesRouter r c.args.change a.result t) same a.ensures.changes in
    let told = subst (λ (t : State). TellsRerouted r a.result t p.rerouted.items a.new.rerouted.items) same
    a.ensures.told in
    let by = change_leads r next settled c.args.change a.result p.rerouted.items a.new.rerouted.items changes told in
    let has = subst (λ (s : Option State). IfSome p.publisher (HasHopsOf s)) is c.self.invariant.hops in
    subst (λ (nodes : List ℕ). IfSome p.publisher (λ k. CanPublish k (Some next) nodes))
    (sym c.deref.ensures.value)
    (IfSome_then p.publisher has
    (can_publish (Some r) (Some next) settled c.session_law-2.ensures a.new.rerouted.items by))

pub returns-clause-changes : goal.returns-clause-changes
returns-clause-changes c =
    let p = c.self.inside in
    let r = c.in_ok-router.router.now in
    let a = c.change_and_note-answer in
    let t = c.publish_rerouted_hops.new.publisher in
    let w = c.publish_changes.new.tables in
    let next : State = c.publish_changes.new.router in
    let same : a.new.router ≡ next = sym c.publish_changes.ensures.same in
    let is = c.in_ok-router.ensures.value in
    let changes = subst (λ (t : State). ChangesRouter r c.args.change a.result t) same a.ensures.changes in
    let told = subst (λ (t : State). TellsRerouted r a.result t p.rerouted.items a.new.rerouted.items) same
    a.ensures.told in
    let has = subst (λ (s : Option State). IfSome p.publisher (HasHopsOf s)) is c.self.invariant.hops in
    let table = subst (λ (nodes : List ℕ). PublishesIn p.publisher (Some next) nodes t) c.deref.ensures.value
    c.publish_rerouted_hops.ensures in
    let had = subst (λ (s : Option State). IfSome p.ways (HasWaysOf s)) is c.self.invariant.ways in
    let ways = subst (λ (t : State). PublishesWaysIn p.ways (Some t) w) same c.publish_changes.ensures.published in
    let ps : WayPushes = pushes_in p.reroutes in
    let new : Published = published (Some next) a.new.rerouted.items t w ps in
    subst (λ (old : Published). MakesChange old c.args.change (Some a.result) new) c.self.view_is
    (subst (λ (s : Option State). MakesChange (published s p.rerouted.items p.publisher p.ways ps) c.args.change
    (Some a.result) new) (sym is)
    (change_made r next p.rerouted.items a.new.rerouted.items p.publisher t p.ways w ps ps has table had ways
    c.args.change a.result changes told (same_pushes a.result ps)))

pub returns-clause-noted : goal.returns-clause-noted
returns-clause-noted c =
    let r = c.in_ok-router.router.now in
    let a = c.change_and_note-answer in
    let next : State = c.publish_changes.new.router in
    let same : a.new.router ≡ next = sym c.publish_changes.ensures.same in
    let was : Some r ≡ c.args.self.now.session =
    sym c.in_ok-router.ensures.value ∙ ap (λ (q : Published). q.session) c.self.view_is in
    let before : WayPushes = pushes_in c.args.reroutes.now in
    let after : WayPushes = pushes_in a.new.reroutes in
    let ways = subst (λ (t : State). IfOk a.result (λ _. AreWayChanges r t after.shrink after.grow)) same
    a.ensures.ways in
    subst (λ (s : Option State). Notes s (Some a.result) (Some next) before after) was
    (change_notes r next a.result before after ways a.ensures.kept)
