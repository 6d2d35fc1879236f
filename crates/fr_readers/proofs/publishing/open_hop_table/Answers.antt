use Rattle.std.proofs.Common.{Option, Some, None, inr, subst, sym, List, ℕ}
use Rattle.fr_route.specs.States.{State}
use Rattle.fr_readers.specs.Published.{HasHopsOf}
use Rattle.fr_readers.specs.Publishing.{CanPublish, IsSettledSession}
use Rattle.fr_readers.proofs.Leading.{can_publish, replaced_leads}
use Rattle.fr_readers.proofs.Bringing.{opened_blank}
use Rattle.fr_readers.proofs.publishing.open_hop_table.Goals.{in-Some+in_ok-rerouted, in_default}
use Rattle.fr_readers.proofs.publishing.open_hop_table.Goals as goal

pub push_rerouted_hops-requires-clause-can : goal.push_rerouted_hops-requires-clause-can
push_rerouted_hops-requires-clause-can c =
    let k = c.in_ok-publisher.publisher in
    let r = c.in-Some.router.now in
    let nodes : List ℕ = c.in_ok-rerouted.rerouted.items in
    let settled = subst IsSettledSession (sym c.in-Some.ensures) c.session_law.ensures in
    let blank = opened_blank k c.in_ok-publisher.ensures.nodes c.in_ok-publisher.ensures.none_yet in
    let leads = replaced_leads None r nodes tt settled c.in_ok-rerouted.ensures in
    subst (λ (s : Option State). CanPublish k s c.deref.result.now) c.in-Some.ensures
    (subst (CanPublish k (Some r)) (sym c.deref.ensures.value)
    (can_publish None (Some r) tt settled nodes (inr leads) k blank))

pub returns : goal.returns
returns c = elim c.match-router.branch [
  | in-Some+in_ok-rerouted w ↦ subst (HasHopsOf c.args.session.now) (sym w.publisher-is)
      w.push_rerouted_hops.ensures.has
  | in_default w ↦ subst (HasHopsOf c.args.session.now) (sym w.publisher-is)
      (subst (λ (s : Option State). HasHopsOf s c.in_ok-publisher.publisher) w.in_default.ensures
      (opened_blank c.in_ok-publisher.publisher c.in_ok-publisher.ensures.nodes c.in_ok-publisher.ensures.none_yet))
]
