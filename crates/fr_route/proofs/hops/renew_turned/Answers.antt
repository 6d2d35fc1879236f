use Rattle.std.proofs.Common.{List, arith, get_or, subst, sym, ℕ, ⊎_elim, ◌+◌, ◌<◌, ◌∙◌, ◌≡◌}
use Rattle.std.proofs.lemmas.Bool.{cases_eq}
use Rattle.std.proofs.lemmas.List.{get_or_default}
use Rattle.fr_graph.proofs.TurnedNodes.{turned_below}
use Rattle.fr_route.specs.Outcomes.{SendsTo, state_after}
use Rattle.fr_route.specs.States.{State}
use Rattle.fr_route.proofs.ChangedHops.{notes_none, notes_then}
use Rattle.fr_route.proofs.Renewing.{renewed_as, renewed_none, renewed_then}
use Rattle.fr_route.proofs.hops.renew_turned.Goals as goal

pub loop-x-init : goal.loop-x-init
loop-x-init c =
    let s : State = state_after c.args.round.now in
    record {
      renewed = renewed_none s c.args.hops.now _ (λ y hop j low. absurd (omega arith));
      noted = notes_none s c.args.hops.now c.args.told.now;
    }

pub renew_node_and_senders-requires-clause-node : goal.renew_node_and_senders-requires-clause-node
renew_node_and_senders-requires-clause-node c =
    omega (
      arith,
      c.requires.round.round.counts.one_each,
      turned_below c.args.round.now.turns.now c.nodes-x-items.result.now c.nodes-x-items.ensures c.loop-x.x-index 0
          c.loop-x-test.true,
    )

pub loop-x-preserved : goal.loop-x-preserved
loop-x-preserved c =
    let s : State = state_after c.args.round.now in
    let links = c.args.round.now.net.now.links in
    let nodes : List ℕ = c.nodes-x-items.result.now in
    let k = c.loop-x.x-index in
    let near = c.renew_node_and_senders.ensures in
    record {
      renewed = renewed_then s c.args.hops.now c.loop-x.hops c.renew_node_and_senders.new.hops (λ y hop. (j : ℕ) → j < k
          → ¬ SendsTo links (get_or nodes j 0) y hop) (λ y hop. ¬ SendsTo links (get_or nodes k 0) y hop)
          (λ y hop. (j : ℕ)
          → j < k + 1 → ¬ SendsTo links (get_or nodes j 0) y hop)
          c.loop-x.invariant.renewed near.renewed
          (λ y hop before apart j low. ⊎_elim
          (λ e. subst (λ (i : ℕ). ¬ SendsTo links (get_or nodes i 0) y hop) (sym e) apart)
          (λ other. before j (omega arith))
          (cases_eq j k));
      noted = notes_then s c.args.hops.now c.loop-x.hops c.renew_node_and_senders.new.hops c.args.told.now c.loop-x.told
          c.renew_node_and_senders.new.told c.loop-x.auto.hops c.loop-x.invariant.noted near.noted;
    }

pub returns-clause-renewed : goal.returns-clause-renewed
returns-clause-renewed c =
    let s : State = state_after c.args.round.now in
    let links = c.args.round.now.net.now.links in
    let nodes : List ℕ = c.nodes-x-items.result.now in
    renewed_as s c.args.hops.now c.loop-x.hops (λ y hop. (j : ℕ) → j < c.loop-x.x-index
    → ¬ SendsTo links (get_or nodes j 0) y hop) _ c.loop-x.invariant.renewed
    (λ y hop earlier (z, (some, sends)).
    let at = (c.nodes-x-items.ensures.each z).1 some in
    let is : get_or nodes at.0 0 ≡ z = get_or_default nodes at.0 0 z at.1 ∙ at.2 in
    earlier at.0 (omega (arith, at.1, c.loop-x-test.false)) (subst (λ (x : ℕ). SendsTo links x y hop) (sym is) sends))
