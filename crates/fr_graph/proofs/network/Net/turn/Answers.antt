use Rattle.std.proofs.Common.{ap, length, subst, sym, ◌∙◌, ◌≡◌}
use Rattle.fr_graph.proofs.PartTurned.{rows_begin, rows_end}
use Rattle.fr_graph.proofs.Remaking.{graph_with_order, network_of_rows}
use Rattle.fr_graph.proofs.TurnedLinks.{length-links_at, turned_faultless}
use Rattle.fr_graph.specs.Counts.{links_at}
use Rattle.fr_graph.specs.Faults.{IsFaultless}
use Rattle.fr_graph.specs.Heights.{Fit}
use Rattle.fr_graph.specs.KeptRows.{AreRows}
use Rattle.fr_graph.specs.Network.{Network}
use Rattle.fr_graph.specs.TurnedRows.{ArePartTurned, none_done}
use Rattle.fr_graph.proofs.network.Net.turn.Goals as goal
use Rattle.fr_graph.proofs.network.Net.turn.Goals.{After-turn_rows, After-self}

clear : (c : After-self) → IsFaultless c.args.self.now.nodes c.args.self.now.links
clear c = subst (λ (m : Network). IsFaultless m.nodes m.links) c.self.view_is c.self.invariant.faultless

turned : (c : After-self) → IsFaultless c.args.self.now.nodes (links_at c.args.self.now.links c.args.turns.now)
turned c = turned_faultless c.args.self.now.nodes c.args.self.now.links c.args.turns.now c.requires.kept (clear c)

nodes_are : (c : After-self) → c.self.inside.graph.nodes ≡ c.args.self.now.nodes
nodes_are c = ap (λ (m : Network). m.nodes) c.self.view_is

-- the rows before the first node, and after the last one
before : (c : After-self) → ArePartTurned c.args.self.now c.args.turns.now none_done c.self.inside.graph.rows
before c =
    rows_begin c.args.self.now c.args.turns.now c.self.inside.graph.rows (clear c).is_net c.requires.one_each
    (subst (λ (m : Network). AreRows m.nodes m.links c.self.inside.graph.rows) c.self.view_is c.self.invariant.rows)

after : (c : After-turn_rows)
    → AreRows c.args.self.now.nodes (links_at c.args.self.now.links c.args.turns.now) c.turn_rows.new.rows
after c =
    let at = (goal.at.After-turn_rows c).After-self in
    rows_end c.args.self.now c.args.turns.now c.turn_rows.new.rows c.requires.kept
    (c.turn_rows.ensures c.args.self.now (before at))

pub turn_rows-requires : goal.turn_rows-requires
turn_rows-requires c = record { rows = (c.args.self.now, before (goal.at.turn_rows-requires c).After-self) }

pub invariant_of-self : goal.invariant_of-self
invariant_of-self c =
    let at = goal.at.invariant_of-self c in
    let links = c.args.self.now.links in
    let count : c.self.inside.graph.link_count ≡ length (links_at links c.args.turns.now) =
    c.self.invariant.counted ∙ ap (λ (m : Network). length m.links) c.self.view_is
    ∙ sym (length-links_at links c.args.turns.now c.requires.kept) in
    let fit : Fit links c.self.inside.graph.heights =
    subst (λ (m : Network). Fit m.links c.self.inside.graph.heights) c.self.view_is c.self.invariant.fit in
    graph_with_order _ (links_at links c.args.turns.now) (rw (nodes_are at.After-self) (turned at.After-self)) count
    (rw (nodes_are at.After-self) (after at.After-turn_rows))
    (c.raise_turned_nodes.ensures.one_each ∙ c.self.invariant.height_each) (c.raise_turned_nodes.ensures.fit links fit)

pub returns : goal.returns
returns c =
    let at = goal.at.returns c in
    rw (nodes_are at.After-self)
    (network_of_rows c.args.self.now.nodes (links_at c.args.self.now.links c.args.turns.now)
    c.turn_rows.new.rows (turned at.After-self) (after at.After-turn_rows))
