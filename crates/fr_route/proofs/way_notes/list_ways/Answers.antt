use Rattle.std.proofs.Common.{arith, length, slice_index, take, ◌<◌, ◌≤◌}
use Rattle.fr_nearest.specs.Ways.{AreWays}
use Rattle.fr_route.proofs.WayNoting.{ways_of_more}
use Rattle.fr_route.proofs.way_notes.list_ways.Goals as goal
use Rattle.fr_route.proofs.way_notes.list_ways.Goals.{else-x-nodes, then-x-nodes}

pub loop-x-preserved : goal.loop-x-preserved
loop-x-preserved c =
    let net = c.args.net.now in
    let nodes = c.args.nodes.now in
    let x = slice_index nodes c.loop-x.x-index in
    let count = c.if-x-nodes.count in
    let list = take count c.if-x-nodes.space in
    let long : net.nodes ≤ length c.if-x-nodes.space = elim c.if-x-nodes.branch [
      | then-x-nodes w ↦ rw (w.space-is, w.write_ways-count.ensures.same) c.loop-x.invariant.space
      | else-x-nodes w ↦ rw w.space-is c.loop-x.invariant.space
    ] in
    let here : x < net.nodes → AreWays net.links c.args.distances.now.dest x list = λ low.
    elim c.if-x-nodes.branch [
      | then-x-nodes w ↦ rw (w.count-is, w.space-is) w.write_ways-count.ensures.ways
      | else-x-nodes w ↦ absurd (omega (arith, w.if-x-nodes.false, low, c.nodes.ensures.value))
    ] in
    record {
      listed = rw c.in_ok-push_row.ensures.added
          (ways_of_more net.nodes net.links c.args.distances.now.dest nodes c.loop-x.table c.loop-x.x-index list
          c.loop-x-test.true c.loop-x.invariant.listed here);
      space = long;
    }
