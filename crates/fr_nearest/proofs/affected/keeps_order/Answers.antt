use Rattle.std.proofs.Common.{ap, arith, get_or, length, rules, slice_index, ◌∙◌, ◌≡◌, ◌≢◌}
use Rattle.fr_graph.specs.Rows.{row}
use Rattle.fr_graph.specs.declared.first.First.TheVariants.{Outward}
use Rattle.fr_nearest.specs.Distances.{no_distance}
use Rattle.fr_nearest.specs.Marks.{IsAlikeAt}
use Rattle.fr_nearest.specs.Update.{HoldTo}
use Rattle.fr_nearest.proofs.Entries.{entry_inside, hold_more}
use Rattle.fr_nearest.proofs.UnlistedNodes.{stays_by}
use Rattle.fr_nearest.proofs.affected.keeps_order.Goals as goal
use Rattle.fr_nearest.proofs.affected.keeps_order.Goals.{else-eq-via-then-eq+else-not-has_same_order, else-eq-via-else-eq}

pub has_same_order-requires-clause-before : goal.has_same_order-requires-clause-before
has_same_order-requires-clause-before c =
    let each : length c.numbers_before-before.result.now ≡ c.args.net.now.nodes =
    ap length c.numbers_before-before.ensures ∙ c.requires.one_each.1 in (
      omega (arith, each, c.requires.nodes.1),
      entry_inside c.args.net.now c.args.x c.row-row.result.now c.loop-u.u-index c.numbers_before-before.result.now
          c.row-row.ensures c.loop-u-test.true each,
    )

pub has_same_order-requires-clause-table : goal.has_same_order-requires-clause-table
has_same_order-requires-clause-table c =
    let each : length c.numbers-table.result.now ≡ c.args.net.now.nodes =
    ap length c.numbers-table.ensures ∙ c.requires.one_each.0 in (
      omega (arith, each, c.requires.nodes.1),
      entry_inside c.args.net.now c.args.x c.row-row.result.now c.loop-u.u-index c.numbers-table.result.now
          c.row-row.ensures c.loop-u-test.true each,
    )

pub loop-u-preserved : goal.loop-u-preserved
loop-u-preserved c =
    let before = c.numbers_before-before.result.now in
    let table = c.numbers-table.result.now in
    let entries = c.row-row.result.now in
    let place = c.loop-u.u-index in
    hold_more (IsAlikeAt before table c.args.w) entries place c.loop-u-test.true c.loop-u.invariant (elim c.else-eq.branch [
      | else-eq-via-then-eq+else-not-has_same_order w ↦ λ _. w.has_same_order.ensures w.if-not-has_same_order.false
      | else-eq-via-else-eq w ↦ λ out.
          let inward : ¬ ((get_or entries place (0, Outward)).1 ≡ Outward) = search rules in
          absurd (inward out)
    ])

pub returns : goal.returns
returns c =
    let net = c.args.net.now in
    let m = c.args.distances.now in
    let w = c.args.w in
    let all : c.loop-u.u-index ≡ length c.row-row.result.now = omega arith in
    let entries = row net.nodes net.links c.args.x in
    let held : HoldTo entries (length entries) (IsAlikeAt m.before m.table w) =
    rw (all, c.row-row.ensures, c.numbers_before-before.ensures, c.numbers-table.ensures) at c.loop-u.invariant in
    let old : slice_index m.before w ≢ no_distance = rw c.numbers_before-before.ensures at c.if-before-w.false in
    let new : slice_index m.table w ≢ no_distance = rw c.numbers-table.ensures at c.if-table-w.false in
    λ _. stays_by m.before m.table c.args.x w c.network_law.ensures.is_net old new held
