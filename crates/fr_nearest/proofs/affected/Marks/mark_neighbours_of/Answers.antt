use Rattle.std.proofs.Common.{arith, get_or, rules, ◌≡◌}
use Rattle.fr_graph.proofs.SideRows.{entry_below}
use Rattle.fr_graph.specs.Rows.{row}
use Rattle.fr_graph.specs.declared.first.First.TheVariants.{Inward, Outward}
use Rattle.fr_nearest.specs.Affected.{HasOne}
use Rattle.fr_nearest.specs.Marks.{HasMarked, IsBehind, IsInward, IsReordered, IsReorderedAt}
use Rattle.fr_nearest.proofs.Marking.{behind_from_row, marked_all, marked_as, marked_first, marked_more, marked_none}
use Rattle.fr_nearest.proofs.Marking.{reordered_in_row}
use Rattle.fr_nearest.proofs.affected.Marks.mark_neighbours_of.Goals as goal
use Rattle.fr_nearest.proofs.affected.Marks.mark_neighbours_of.Goals.{then-eq, else-eq}

pub mark_reordered-requires-clause-room : goal.mark_reordered-requires-clause-room
mark_reordered-requires-clause-room c = omega (arith, c.requires.room, c.loop-y.invariant.long)

pub mark_reordered-requires-clause-nodes : goal.mark_reordered-requires-clause-nodes
mark_reordered-requires-clause-nodes c =
    let net = c.args.net.now in (
      entry_below net.nodes net.links c.args.w c.row-row.result.now c.loop-y.y-index (0, Outward) c.row-row.ensures
          c.loop-y-test.true,
      c.requires.node,
    )

pub loop-y-init : goal.loop-y-init
loop-y-init c =
    let m = c.args.distances.now in
    marked_first (IsReorderedAt c.args.net.now.links m.before m.table c.args.w) IsInward c.requires.marks

pub loop-y-preserved : goal.loop-y-preserved
loop-y-preserved c =
    let m = c.args.distances.now in
    let entries = c.row-row.result.now in
    let place = c.loop-y.y-index in
    let entry = get_or entries place (0, Outward) in
    let inv = c.loop-y.invariant in
    elim c.if-eq.branch [
      | then-eq w ↦
          let back : entry.1 ≡ Inward = search rules in
          rw w.self-is (marked_more (IsReorderedAt c.args.net.now.links m.before m.table c.args.w) IsInward entries
          place
          (0, Outward) c.loop-y-test.true inv
          (marked_as (IsReorderedAt c.args.net.now.links m.before m.table c.args.w entry) (IsInward entry)
          (λ y is. is.1) (λ y is. (back, is)) w.mark_reordered.ensures))
      | else-eq w ↦
          let out : ¬ (entry.1 ≡ Inward) = search rules in
          rw w.self-is (marked_more (IsReorderedAt c.args.net.now.links m.before m.table c.args.w) IsInward entries
          place
          (0, Outward) c.loop-y-test.true inv
          (marked_none (IsReorderedAt c.args.net.now.links m.before m.table c.args.w entry) (IsInward entry) inv.are
          (λ y is. absurd (out is.0))))
    ]

pub returns : goal.returns
returns c =
    let net = c.args.net.now in
    let m = c.args.distances.now in
    let w = c.args.w in
    let entries = row net.nodes net.links w in
    let all : HasMarked (HasOne (IsReorderedAt net.links m.before m.table w) entries) (HasOne IsInward entries)
    c.args.self.now c.loop-y.self = rw c.row-row.ensures at (marked_all (IsReorderedAt net.links m.before m.table w)
    IsInward c.row-row.result.now c.loop-y.y-index (omega (arith, c.loop-y-test.false)) c.loop-y.invariant) in
    marked_as (IsReordered net.links m.before m.table w) (IsBehind net.links w)
    (reordered_in_row net.nodes net.links m.before m.table w c.network_law.ensures.is_net)
    (behind_from_row net.nodes net.links w) all
