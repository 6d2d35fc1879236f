use Rattle.std.proofs.Common.{ap, arith, ◌∙◌}
use Rattle.std.proofs.lemmas.List.Sums.{count_by-le-length}
use Rattle.fr_graph.proofs.KeptRows.{alone_counted}
use Rattle.fr_graph.specs.Graph.{shown}
use Rattle.fr_graph.specs.Network.{Network}
use Rattle.fr_graph.specs.Rows.{alone_count}
use Rattle.fr_graph.specs.Tables.{has_none}
use Rattle.fr_graph.proofs.network.Net.isolated_count.Goals as goal

pub overflow_cast-result : goal.overflow_cast-result
overflow_cast-result c =
    let g = c.self.inside.graph in
    omega (
      arith,
      c.empty_rows.ensures,
      count_by-le-length has_none g.rows.rows,
      c.self.invariant.rows.one_each,
      c.self.invariant.faultless.limits.nodes_few,
    )

pub returns : goal.returns
returns c =
    let g = c.self.inside.graph in
    c.empty_rows.ensures ∙ alone_counted g.nodes (shown g).links g.rows c.self.invariant.rows
    ∙ ap (λ (m : Network). alone_count m.nodes m.links) c.self.view_is
