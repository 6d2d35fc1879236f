use Rattle.std.proofs.Common.{ap, arith, length, sym, ◌+◌, ◌∙◌, ◌≡◌}
use Rattle.std.proofs.lemmas.List.{length_push}
use Rattle.fr_graph.proofs.AddedLinks.{added, faultless_added}
use Rattle.fr_graph.proofs.Remaking.{graph_with_order, network_of_rows}
use Rattle.fr_graph.specs.Faults.{IsFaultless}
use Rattle.fr_graph.specs.Graph.{shown}
use Rattle.fr_graph.specs.KeptRows.{AreRows, ShowsNoLink}
use Rattle.fr_graph.proofs.graph.Graph.insert_link.Goals as goal
use Rattle.fr_graph.proofs.graph.Graph.insert_link.Goals.{After-insert_link_in_rows, Start}

-- the rows without the link, and with it
before : (c : Start) → ShowsNoLink (shown c.args.self.now) c.args.tail c.args.head c.args.self.now.rows
before c = record { nodes = c.requires.link.unjoined; rows = c.requires.graph.rows }

clear : (c : Start) → IsFaultless c.args.self.now.nodes (added (shown c.args.self.now).links c.args.tail c.args.head)
clear c =
    faultless_added c.args.self.now.nodes (shown c.args.self.now).links c.args.tail c.args.head
    c.requires.graph.faultless c.requires.link

more : (c : Start)
    → length (added (shown c.args.self.now).links c.args.tail c.args.head) ≡ c.args.self.now.link_count + 1
more c = omega (arith, length_push (shown c.args.self.now).links (c.args.tail, c.args.head), c.requires.graph.counted)

rows : (c : After-insert_link_in_rows)
    → AreRows c.args.self.now.nodes (added (shown c.args.self.now).links c.args.tail c.args.head)
    c.insert_link_in_rows.new.rows
rows c = c.insert_link_in_rows.ensures.rows (shown c.args.self.now) (before (goal.at.After-insert_link_in_rows c).Start)

pub insert_link_in_rows-requires-clause-shown : goal.insert_link_in_rows-requires-clause-shown
insert_link_in_rows-requires-clause-shown c =
    (shown c.args.self.now, before (goal.at.insert_link_in_rows-requires-clause-shown c).Start)

pub insert_link_in_rows-requires-clause-few : goal.insert_link_in_rows-requires-clause-few
insert_link_in_rows-requires-clause-few c =
    omega (arith, c.requires.graph.rows.one_each, c.requires.graph.faultless.limits.nodes_few)

pub overflow_add-self : goal.overflow_add-self
overflow_add-self c = omega (arith, c.requires.graph.counted, c.requires.link.few)

pub returns-clause-graph : goal.returns-clause-graph
returns-clause-graph c =
    let at = goal.at.returns-clause-graph c in
    let links = (shown c.args.self.now).links in
    let graph = c.requires.graph in
    graph_with_order _ (added links c.args.tail c.args.head) (clear at.Start) (sym (more at.Start))
    (rows at.After-insert_link_in_rows)
    (ap length c.update_for_link.ensures.same ∙ graph.height_each) (c.update_for_link.ensures.fit links graph.fit)

pub returns-clause-put : goal.returns-clause-put
returns-clause-put c =
    let at = goal.at.returns-clause-put c in
    network_of_rows c.args.self.now.nodes (added (shown c.args.self.now).links c.args.tail c.args.head)
    c.insert_link_in_rows.new.rows (clear at.Start) (rows at.After-insert_link_in_rows)
