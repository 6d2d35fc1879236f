use Rattle.std.proofs.Common.{arith}
use Rattle.fr_graph.proofs.SideRows.{entry_below}
use Rattle.fr_graph.specs.Rows.{row}
use Rattle.fr_graph.specs.declared.first.First.TheVariants.{Outward}
use Rattle.fr_nearest.specs.Affected.{HasOne, IsNextTo}
use Rattle.fr_nearest.specs.Marks.{HasMarked, IsNeighbour}
use Rattle.fr_nearest.proofs.Marking.{marked_all, marked_as, marked_first, marked_more, marked_then, next_from_row}
use Rattle.fr_nearest.proofs.Marking.{next_in_row}
use Rattle.fr_nearest.proofs.affected.Marks.mark_with_neighbours.Goals as goal

pub mark-requires-in-loop-w-clause-node : goal.mark-requires-in-loop-w-clause-node
mark-requires-in-loop-w-clause-node c =
    let net = c.args.net.now in
    omega (
      arith,
      entry_below net.nodes net.links c.args.x c.row-row.result.now c.loop-w.w-index (0, Outward) c.row-row.ensures
          c.loop-w-test.true,
      c.requires.room,
      c.mark.ensures.long,
      c.loop-w.invariant.long,
    )

pub loop-w-init : goal.loop-w-init
loop-w-init c = marked_first IsNeighbour IsNeighbour c.mark.ensures.are

pub loop-w-preserved : goal.loop-w-preserved
loop-w-preserved c = marked_more IsNeighbour IsNeighbour c.row-row.result.now c.loop-w.w-index (0, Outward)
    c.loop-w-test.true c.loop-w.invariant c.mark-in-loop-w.ensures

pub returns : goal.returns
returns c =
    let net = c.args.net.now in
    let x = c.args.x in
    let entries = row net.nodes net.links x in
    let neighbours : HasMarked (HasOne IsNeighbour entries) (HasOne IsNeighbour entries) c.mark.new.self c.loop-w.self =
    rw c.row-row.ensures at (marked_all IsNeighbour IsNeighbour c.row-row.result.now c.loop-w.w-index
    (omega (arith, c.loop-w-test.false)) c.loop-w.invariant) in
    marked_as (IsNextTo net.links x) (IsNextTo net.links x)
    (next_in_row net.nodes net.links x c.network_law.ensures.is_net)
    (next_from_row net.nodes net.links x) (marked_then c.mark.ensures neighbours)
