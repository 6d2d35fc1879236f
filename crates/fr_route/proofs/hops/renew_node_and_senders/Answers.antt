use Rattle.std.proofs.Common.{List, arith, subst, sym, ℕ, ◌∙◌, ◌≡◌, ◌<◌, ◌+◌, All}
use Rattle.fr_core.proofs.RowLinks.{row_below}
use Rattle.fr_graph.specs.declared.first.First.{First}
use Rattle.fr_route.specs.Outcomes.{state_after}
use Rattle.fr_route.specs.States.{State}
use Rattle.fr_route.proofs.ChangedHops.{notes_then}
use Rattle.fr_route.proofs.Renewing.{NoneSends, none_left, none_more, renewed_as, renewed_then}
use Rattle.fr_route.proofs.hops.renew_node_and_senders.Goals as goal

pub loop-w-init : goal.loop-w-init
loop-w-init c =
    let s : State = state_after c.args.round.now in
    record {
      renewed =
          renewed_as s c.args.hops.now c.renew_hop.new.hops (λ y hop. ¬ (y ≡ c.args.x)) (λ y hop. (¬ (y ≡ c.args.x))
          × NoneSends c.row-row.result.now 0 c.args.x y hop) c.renew_hop.ensures.renewed
          (λ y hop apart. (apart, λ j d low. absurd (omega arith)));
      noted = c.renew_hop.ensures.noted;
    }

pub renew_sender-requires-clause-node : goal.renew_sender-requires-clause-node
renew_sender-requires-clause-node c =
    let net = c.args.round.now.net.now in
    let below : All (λ (e : ℕ × First). e.0 < net.nodes) c.row-row.result.now =
    subst (λ (es : List (ℕ × First)). All (λ (e : ℕ × First). e.0
    < net.nodes) es) (sym c.row-row.ensures) (row_below net.nodes net.links c.args.x) in
    below c.loop-w.w-index _ c.loop-w-test.true

pub loop-w-preserved : goal.loop-w-preserved
loop-w-preserved c =
    let s : State = state_after c.args.round.now in
    let x = c.args.x in
    let k = c.loop-w.w-index in
    let row = c.row-row.result.now in
    record {
      renewed = renewed_then s c.args.hops.now c.loop-w.hops c.renew_sender.new.hops (λ y hop. (¬ (y ≡ x))
          × NoneSends row k x y hop) _ (λ y hop. (¬ (y ≡ x)) × NoneSends row (k + 1) x y hop)
          c.loop-w.invariant.renewed c.renew_sender.ensures.renewed
          (λ y hop before here. (before.0, none_more row k _ x y hop c.loop-w-test.true before.1 here));
      noted = notes_then s c.args.hops.now c.loop-w.hops c.renew_sender.new.hops c.args.told.now c.loop-w.told
          c.renew_sender.new.told (c.loop-w.auto.hops
          ∙ c.renew_hop.auto.hops) c.loop-w.invariant.noted c.renew_sender.ensures.noted;
    }

pub returns-clause-renewed : goal.returns-clause-renewed
returns-clause-renewed c =
    let s : State = state_after c.args.round.now in
    let net = c.args.round.now.net.now in
    let x = c.args.x in
    let k = c.loop-w.w-index in
    let row = c.row-row.result.now in
    renewed_as s c.args.hops.now c.loop-w.hops (λ y hop. (¬ (y ≡ x))
    × NoneSends row k x y hop) _ c.loop-w.invariant.renewed
    (λ y hop left. none_left net.nodes net.links x row k c.network_law.ensures.is_net c.row-row.ensures
    c.loop-w-test.false y hop left.0 left.1)
