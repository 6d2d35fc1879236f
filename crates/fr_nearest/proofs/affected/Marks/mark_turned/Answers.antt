use Rattle.std.proofs.Common.{arith}
use Rattle.fr_nearest.specs.Affected.{IsNextTo}
use Rattle.fr_nearest.proofs.Marking.{marked_all, marked_first, marked_more}
use Rattle.fr_nearest.proofs.affected.Marks.mark_turned.Goals as goal

pub mark_with_neighbours-requires-clause-room : goal.mark_with_neighbours-requires-clause-room
mark_with_neighbours-requires-clause-room c = omega (arith, c.loop-x.invariant.long, c.requires.room)

pub loop-x-init : goal.loop-x-init
loop-x-init c = marked_first (IsNextTo c.args.net.now.links) (IsNextTo c.args.net.now.links) c.requires.marks

pub loop-x-preserved : goal.loop-x-preserved
loop-x-preserved c = marked_more (IsNextTo c.args.net.now.links) (IsNextTo c.args.net.now.links) c.args.turned.now
    c.loop-x.x-index 0 c.loop-x-test.true c.loop-x.invariant c.mark_with_neighbours.ensures

pub returns : goal.returns
returns c = marked_all (IsNextTo c.args.net.now.links) (IsNextTo c.args.net.now.links) c.args.turned.now
    c.loop-x.x-index (omega (arith, c.loop-x-test.false)) c.loop-x.invariant
