use Rattle.std.proofs.Common.{All, arith, get_or, refl, subst, take_all, ℕ, ◌<◌}
use Rattle.std.proofs.lemmas.Bool.{false≢true}
use Rattle.std.proofs.lemmas.List.Elements.{All-contains, All-more, Contains-get_or}
use Rattle.fr_core.proofs.CutOff.{apart_by_rows, row_apart}
use Rattle.fr_core.specs.CutOff.{HasTurned}
use Rattle.fr_graph.proofs.TurnedNodes.{turned_below}
use Rattle.fr_graph.specs.Rows.{row}
use Rattle.fr_core.proofs.cut_off.are_turned_nodes_apart.Goals as goal

pub have_neighbours_turned-requires-clause-node : goal.have_neighbours_turned-requires-clause-node
have_neighbours_turned-requires-clause-node c =
    let turned = c.nodes-turned.result.now in
    omega (
      arith,
      turned_below c.args.turns.now turned c.nodes-turned.ensures c.loop-x.x-index 0 c.loop-x-test.true,
      c.requires,
    )

pub returns-then-not-have_neighbours_turned : goal.returns-then-not-have_neighbours_turned
returns-then-not-have_neighbours_turned c =
    let net = c.args.net.now in
    let x : ℕ = get_or c.nodes-turned.result.now c.loop-x.x-index 0 in
    let some : 0 < get_or c.args.turns.now x 0 = (c.nodes-turned.ensures.each x).0
    (Contains-get_or c.nodes-turned.result.now c.loop-x.x-index 0 c.loop-x-test.true) in (
      λ f. absurd (false≢true f),
      λ apart.
          let have : All (HasTurned c.counts-counts.result.now) (row net.nodes net.links x) =
          rw c.counts-counts.ensures (row_apart net.nodes net.links c.args.turns.now apart x some) in
          absurd (cc (c.have_neighbours_turned.ensures.1 have, c.if-not-have_neighbours_turned.true)),
    )

pub loop-x-preserved : goal.loop-x-preserved
loop-x-preserved c =
    let net = c.args.net.now in
    All-more (λ (x : ℕ). All (HasTurned c.counts-counts.result.now) (row net.nodes net.links x))
    c.nodes-turned.result.now c.loop-x.x-index 0 c.loop-x-test.true c.loop-x.invariant
    (c.have_neighbours_turned.ensures.0 c.if-not-have_neighbours_turned.false)

pub returns : goal.returns
returns c =
    let net = c.args.net.now in
    let turned = c.nodes-turned.result.now in
    let whole : All (λ (x : ℕ). All (HasTurned c.counts-counts.result.now) (row net.nodes net.links x)) turned =
    subst (All (λ (x : ℕ). All (HasTurned c.counts-counts.result.now) (row net.nodes net.links x)))
    (take_all c.loop-x.x-index turned c.loop-x-test.false) c.loop-x.invariant in (
      λ t. apart_by_rows net.nodes net.links c.args.turns.now c.network_law.ensures.is_net
          (λ x some. rw c.counts-counts.ensures at (All-contains
          (λ (y : ℕ). All (HasTurned c.counts-counts.result.now) (row net.nodes net.links y)) turned x whole
          ((c.nodes-turned.ensures.each x).1 some))),
      λ apart. refl,
    )
