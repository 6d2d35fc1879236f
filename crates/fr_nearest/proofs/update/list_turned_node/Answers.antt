use Rattle.std.proofs.Common.{arith, get_or, length, rules, sym, ◌∙◌, ◌≡◌, ◌≤◌}
use Rattle.fr_graph.proofs.SideRows.{entry_below}
use Rattle.fr_graph.specs.Rows.{row}
use Rattle.fr_graph.specs.declared.first.First.TheVariants.{Outward}
use Rattle.fr_nearest.specs.Update.{ListsRow}
use Rattle.fr_nearest.proofs.Entries.{entry_inside}
use Rattle.fr_nearest.proofs.Listing.{row_all, row_first, row_listed, row_none}
use Rattle.fr_nearest.proofs.update.list_turned_node.Goals as goal
use Rattle.fr_nearest.proofs.update.list_turned_node.Goals.{then-eq+then-is_affected_by, else-eq}
use Rattle.fr_nearest.proofs.update.list_turned_node.Goals.{else-eq-via-then-eq+else-is_affected_by}
use Rattle.fr_nearest.proofs.update.list_turned_node.Goals.{else-eq-via-else-eq}

pub bounds-distances-w : goal.bounds-distances-w
bounds-distances-w c = entry_inside c.args.net.now c.args.x c.row-row.result.now c.loop-w.w-index c.args.distances.now
    c.row-row.ensures c.loop-w-test.true c.requires.one_each

pub loop-w-init : goal.loop-w-init
loop-w-init c =
    let push = c.push_reserved.ensures in
    record {
      row = rw push.items (row_first c.args.net.now.nodes c.args.distances.now c.args.event c.args.x
          c.row-row.result.now c.args.list.now.items c.requires.node c.requires.listed.below);
      room = push.capacity;
    }

pub loop-w-preserved : goal.loop-w-preserved
loop-w-preserved c =
    let net = c.args.net.now in
    let entry = get_or c.row-row.result.now c.loop-w.w-index (0, Outward) in
    let inv = c.loop-w.invariant in
    let low = entry_below net.nodes net.links c.args.x c.row-row.result.now c.loop-w.w-index (0, Outward)
    c.row-row.ensures c.loop-w-test.true in
    elim c.if-eq.branch [
      | then-eq+then-is_affected_by w ↦
          let push = w.push_reserved-then-is_affected_by.ensures in
          rw w.list-is record {
            row = rw push.items (row_listed c.loop-w-test.true low inv.row);
            room = push.capacity ∙ inv.room;
          }
      | else-eq w ↦ rw w.list-is record {
        row = row_none c.loop-w-test.true (elim w.else-eq.branch [
          | else-eq-via-then-eq+else-is_affected_by v ↦ λ _. v.is_affected_by.ensures (λ e. search rules)
          | else-eq-via-else-eq v ↦ λ seen. let other : ¬ (entry.1 ≡ c.direction_for_turned-seen.result) =
              search rules in
              absurd (other (seen ∙ sym c.direction_for_turned-seen.ensures))
        ]) inv.row;
        room = inv.room;
      }
    ]

pub returns-clause-listed : goal.returns-clause-listed
returns-clause-listed c =
    let net = c.args.net.now in
    let inv = c.loop-w.invariant in
    let all : c.loop-w.w-index ≡ length c.row-row.result.now = omega arith in
    let short : length c.loop-w.list.items ≤ net.nodes =
    omega (arith, inv.row.short, all, c.if-len-row.false, c.len.ensures, c.requires.one_each, c.args.list.now.ok.0) in
    let entries = row net.nodes net.links c.args.x in
    let whole : ListsRow net.nodes c.args.distances.now c.args.event c.args.x entries (length entries)
    c.args.list.now.items c.loop-w.list.items = rw (all, c.row-row.ensures) at inv.row in
    λ _. row_all c.network_law.ensures.is_net short whole
