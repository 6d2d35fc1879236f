use Rattle.std.proofs.Common.{arith, length, ◌<◌}
use Rattle.fr_core.proofs.RowLinks.{row_below}
use Rattle.fr_graph.specs.Rows.{row}
use Rattle.fr_core.proofs.worker.Worker.load_neighbour_count.Goals as goal

pub bounds-counts-neighbour : goal.bounds-counts-neighbour
bounds-counts-neighbour c =
    let net = c.args.net.now in
    let place : c.args.place < length (row net.nodes net.links c.node-node.result) =
    rw c.node-node.ensures c.requires.place in
    let below : c.neighbour-neighbour.result.0 < net.nodes =
    rw c.neighbour-neighbour.ensures.at at
    (row_below net.nodes net.links c.node-node.result c.args.place c.neighbour-neighbour.result place) in
    omega (arith, c.requires.one_each)
