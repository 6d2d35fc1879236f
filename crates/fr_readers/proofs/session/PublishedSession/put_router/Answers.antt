use Rattle.std.proofs.Common.{IfSome, List, Option, Some, inr, subst, sym, ℕ}
use Rattle.std.proofs.lemmas.Option.{IfSome_then}
use Rattle.fr_route.specs.Reroutes.{AreReplaced}
use Rattle.fr_route.specs.States.{State}
use Rattle.fr_readers.specs.Publishing.{CanPublish, IsSettledSession}
use Rattle.fr_readers.proofs.Leading.{can_publish, replaced_leads}
use Rattle.fr_readers.proofs.session.PublishedSession.put_router.Goals as goal

pub publish_rerouted_hops-requires-clause-can : goal.publish_rerouted_hops-requires-clause-can
publish_rerouted_hops-requires-clause-can c =
    let p = c.self.inside in
    let r = c.args.router in
    let nodes : List ℕ = c.in_ok-rerouted.rerouted.items in
    let settled = subst IsSettledSession c.put_router.ensures c.session_law-2.ensures in
    let leads = replaced_leads p.session r nodes c.session_law.ensures settled
    (subst (λ (s : Option State). AreReplaced s r nodes) c.router.ensures c.in_ok-rerouted.ensures) in
    subst (λ (s : Option State). IfSome p.publisher (λ k. CanPublish k s c.deref.result.now)) (sym c.put_router.ensures)
    (subst (λ (list : List ℕ). IfSome p.publisher (λ k. CanPublish k (Some r) list)) (sym c.deref.ensures.value)
    (IfSome_then p.publisher c.self.invariant.hops
    (can_publish p.session (Some r) c.session_law.ensures settled nodes (inr leads))))
