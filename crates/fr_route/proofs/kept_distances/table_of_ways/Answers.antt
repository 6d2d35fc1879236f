use Rattle.std.proofs.Common.{arith, subst, sym}
use Rattle.fr_nearest.specs.Ways.{AreWays}
use Rattle.fr_route.proofs.NodeWays.{ways_pushed}
use Rattle.fr_route.proofs.kept_distances.table_of_ways.Goals as goal

pub loop-x-preserved : goal.loop-x-preserved
loop-x-preserved c =
    let links = c.args.net.now.links in
    let d = c.args.distances.now.dest in
    rw c.in_ok-push_row.ensures.added
    (ways_pushed (AreWays links d) c.loop-x.table c.row.result.now c.loop-x.x c.loop-x.invariant.0
    c.loop-x.invariant.1
    (subst (AreWays links d c.loop-x.x) (sym c.row.ensures) (c.in_ok-ways.ensures.each c.loop-x.x
    (omega (arith, c.loop-x-test.true, c.nodes-nodes.ensures.value)))))
