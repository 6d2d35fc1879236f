use Rattle.std.proofs.Common.{arith}
use Rattle.fr_nearest.specs.Marks.{IsBehind, IsReordered}
use Rattle.fr_nearest.proofs.Marking.{marked_all, marked_first, marked_more}
use Rattle.fr_nearest.proofs.affected.Marks.mark_changed.Goals as goal

pub mark_neighbours_of-requires-clause-room : goal.mark_neighbours_of-requires-clause-room
mark_neighbours_of-requires-clause-room c = omega (arith, c.loop-w.invariant.long, c.requires.room)

pub loop-w-init : goal.loop-w-init
loop-w-init c =
    let links = c.args.net.now.links in
    let m = c.args.distances.now in
    marked_first (IsReordered links m.before m.table) (IsBehind links) c.requires.marks

pub loop-w-preserved : goal.loop-w-preserved
loop-w-preserved c =
    let links = c.args.net.now.links in
    let m = c.args.distances.now in
    marked_more (IsReordered links m.before m.table) (IsBehind links) c.args.changed.now c.loop-w.w-index 0
    c.loop-w-test.true c.loop-w.invariant c.mark_neighbours_of.ensures

pub returns : goal.returns
returns c =
    let links = c.args.net.now.links in
    let m = c.args.distances.now in
    marked_all (IsReordered links m.before m.table) (IsBehind links) c.args.changed.now c.loop-w.w-index
    (omega (arith, c.loop-w-test.false)) c.loop-w.invariant
