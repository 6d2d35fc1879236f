use Rattle.std.proofs.Common.{length, ◌∙◌}
use Rattle.fr_graph.proofs.Remaking.{graph_with_order, network_of_rows}
use Rattle.fr_graph.proofs.ShownLinks.{heads_of}
use Rattle.fr_graph.specs.Heights.{HasHeadsFirst}
use Rattle.fr_graph.specs.KeptRows.{net_in}
use Rattle.fr_graph.specs.Links.{AreBelow}
use Rattle.fr_graph.proofs.network.graph_with_order.Goals as goal

pub set_from_order-requires : goal.set_from_order-requires
set_from_order-requires c = ((net_in c.args.rows).links, rw c.in_ok-heights.ensures.one_each c.requires.order)

pub returns-clause-graph : goal.returns-clause-graph
returns-clause-graph c =
    let links = c.requires.links.0 in
    let clear = c.requires.links.1 in
    let rows = c.requires.links.2 in
    let one_each = c.in_ok-heights.ensures.one_each in
    let below : AreBelow (length c.in_ok-heights.heights.heights) links = rw one_each clear.is_net.in_range in
    let heads : HasHeadsFirst (length c.in_ok-heights.heights.heights) links c.args.order.now =
    rw one_each (heads_of c.args.nodes links c.args.rows clear.is_net.in_range rows c.requires.order) in
    let fit = c.set_from_order.ensures.fit links below heads in
    graph_with_order _ links clear c.requires.links.3 rows (c.set_from_order.ensures.one_each ∙ one_each) fit

pub returns-clause-shown : goal.returns-clause-shown
returns-clause-shown c = λ links clear rows. network_of_rows c.args.nodes links c.args.rows clear rows
