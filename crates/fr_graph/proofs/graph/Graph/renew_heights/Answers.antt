use Rattle.std.proofs.Common.{arith, length}
use Rattle.fr_graph.proofs.Remaking.{same_of_heights}
use Rattle.fr_graph.proofs.ShownLinks.{entries_below, heads_of, rows_rise}
use Rattle.fr_graph.specs.Graph.{shown}
use Rattle.fr_graph.specs.Heights.{HasHeadsFirst}
use Rattle.fr_graph.specs.Links.{AreBelow}
use Rattle.fr_graph.proofs.graph.Graph.renew_heights.Goals as goal

pub find_cycle-requires-clause-one_each : goal.find_cycle-requires-clause-one_each
find_cycle-requires-clause-one_each c = c.requires.graph.rows.one_each

pub find_cycle-requires-clause-below : goal.find_cycle-requires-clause-below
find_cycle-requires-clause-below c =
    entries_below c.args.self.now.nodes (shown c.args.self.now).links c.args.self.now.rows c.requires.graph.rows

pub find_cycle-requires-clause-rising : goal.find_cycle-requires-clause-rising
find_cycle-requires-clause-rising c =
    rows_rise c.args.self.now.nodes (shown c.args.self.now).links c.args.self.now.rows c.requires.graph.rows

pub returns-clause-same : goal.returns-clause-same
returns-clause-same c =
    let g = c.args.self.now in
    let links = (shown g).links in
    let found = rw c.in-Order.is at c.in_ok-order.ensures in
    let in_range = c.requires.graph.faultless.is_net.in_range in
    let first : HasHeadsFirst (length g.heights.heights) links c.deref.result.now =
    rw (c.requires.graph.height_each, c.deref.ensures.value)
    (heads_of g.nodes links g.rows in_range c.requires.graph.rows found.1) in
    let below : AreBelow (length g.heights.heights) links = rw c.requires.graph.height_each in_range in
    same_of_heights g c.set_from_order.new.self (omega (
      arith,
      c.set_from_order.ensures.one_each,
      c.requires.graph.height_each,
    ))
    (c.set_from_order.ensures.fit links below first) c.requires.graph
