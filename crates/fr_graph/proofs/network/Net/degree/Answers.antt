use Rattle.std.proofs.Common.{ap, arith, length}
use Rattle.fr_graph.proofs.Neighbours.{length-row-le}
use Rattle.fr_graph.specs.Graph.{shown}
use Rattle.fr_graph.proofs.network.Net.degree.Goals as goal

pub overflow_cast-result : goal.overflow_cast-result
overflow_cast-result c =
    let g = c.self.inside.graph in
    omega (
      arith,
      ap length c.row.ensures,
      length-row-le g.nodes (shown g).links c.args.x,
      c.self.invariant.faultless.limits.nodes_few,
    )
