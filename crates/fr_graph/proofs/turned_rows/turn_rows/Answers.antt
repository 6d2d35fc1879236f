use Rattle.std.proofs.Common.{arith, false, get_or, subst, suc, ℕ, ◌+◌, ◌∙◌, ◌≡◌}
use Rattle.std.proofs.lemmas.List.Elements.{Contains-get_or}
use Rattle.std.proofs.lemmas.List.{get_or_default}
use Rattle.fr_graph.proofs.PartTurned.{all_seen, none_seen, stands_before, stands_not, stands_somewhere}
use Rattle.fr_graph.proofs.TurnedNodes.{turned_below}
use Rattle.fr_graph.specs.TurnedRows.{ArePartTurned, is_done}
use Rattle.fr_graph.proofs.turned_rows.turn_rows.Goals as goal
use Rattle.fr_graph.proofs.turned_rows.turn_rows.Goals.{After-counts}

-- the next node of the list was not handled before
unseen : (c : After-counts)
    → stands_before c.nodes-x-items.result.now c.loop-x.x-index (get_or c.nodes-x-items.result.now c.loop-x.x-index 0)
    ≡ false
unseen c =
    let nodes = c.nodes-x-items.result.now in
    let i = c.loop-x.x-index in
    stands_not nodes i (get_or nodes i 0) (λ j l. c.nodes-x-items.ensures.once j i l c.loop-x-test.true)

pub loop-x-init : goal.loop-x-init
loop-x-init c = λ net part. none_seen net c.args.turns.now c.args.rows.now part

pub turn_node-requires-clause-node : goal.turn_node-requires-clause-node
turn_node-requires-clause-node c =
    rw c.counts.ensures (turned_below c.args.turns.now c.nodes-x-items.result.now c.nodes-x-items.ensures
    c.loop-x.x-index 0 c.loop-x-test.true)

pub turn_node-requires-clause-turned : goal.turn_node-requires-clause-turned
turn_node-requires-clause-turned c =
    let nodes = c.nodes-x-items.result.now in
    let i = c.loop-x.x-index in
    rw c.counts.ensures ((c.nodes-x-items.ensures.each (get_or nodes i 0)).0
    (Contains-get_or nodes i 0 c.loop-x-test.true))

pub turn_node-requires-clause-rows : goal.turn_node-requires-clause-rows
turn_node-requires-clause-rows c =
    let net = c.requires.rows.0 in
    let seen = stands_before c.nodes-x-items.result.now c.loop-x.x-index in
    rw c.counts.ensures (
      net,
      seen,
      unseen (goal.at.turn_node-requires-clause-rows c).After-counts,
      c.loop-x.invariant net c.requires.rows.1,
    )

pub loop-x-preserved : goal.loop-x-preserved
loop-x-preserved c = λ net part.
    let nodes = c.nodes-x-items.result.now in
    let i = c.loop-x.x-index in
    let turned = c.turn_node.ensures net (stands_before nodes i) (unseen (goal.at.loop-x-preserved c).After-counts)
    (rw c.counts.ensures (c.loop-x.invariant net part)) in
    let next : suc i ≡ i + 1 = omega arith in
    subst (λ (k : ℕ). ArePartTurned net c.args.turns.now (is_done c.args.turns.now (stands_before nodes k))
    c.turn_node.new.rows) next (rw c.counts.ensures at turned)

pub returns : goal.returns
returns c = λ net part.
    let nodes = c.nodes-x-items.result.now in
    let i = c.loop-x.x-index in
    all_seen net c.args.turns.now (stands_before nodes i) c.loop-x.rows
    (λ y turned.
    let at = (c.nodes-x-items.ensures.each y).1 turned in
    stands_somewhere nodes i at.0 y (omega (arith, at.1, c.loop-x-test.false)) (get_or_default nodes at.0 0 y at.1
    ∙ at.2))
    (c.loop-x.invariant net part)
