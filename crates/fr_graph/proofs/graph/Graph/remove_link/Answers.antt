use Rattle.std.proofs.Common.{arith, inl, length, ℕ, ◌+◌, ◌≡◌}
use Rattle.std.specs.Prelude.{not}
use Rattle.fr_graph.proofs.Editing.{faultless_cut, from_filter}
use Rattle.fr_graph.proofs.Remaking.{fewer_fall, graph_with_order, network_of_rows}
use Rattle.fr_graph.proofs.Undoing.{cut_one}
use Rattle.fr_graph.specs.Edits.{without}
use Rattle.fr_graph.specs.Faults.{IsFaultless}
use Rattle.fr_graph.specs.Graph.{shown}
use Rattle.fr_graph.specs.KeptRows.{AreRows, ShowsLink}
use Rattle.fr_graph.specs.Links.{is_between}
use Rattle.fr_graph.proofs.graph.Graph.remove_link.Goals as goal
use Rattle.fr_graph.proofs.graph.Graph.remove_link.Goals.{After-remove_link_from_rows, Start}

-- the rows with the link, and without it
before : (c : Start) → ShowsLink (shown c.args.self.now) c.args.tail c.args.head c.args.self.now.rows
before c =
    record { is_net = c.requires.graph.faultless.is_net; joins = inl c.requires.stands; rows = c.requires.graph.rows }

clear : (c : Start) → IsFaultless c.args.self.now.nodes (without c.args.tail c.args.head (shown c.args.self.now).links)
clear c =
    faultless_cut c.args.self.now.nodes (shown c.args.self.now).links c.args.tail c.args.head c.requires.graph.faultless

fewer : (c : Start)
    → c.args.self.now.link_count ≡ length (without c.args.tail c.args.head (shown c.args.self.now).links) + 1
fewer c = omega (
  arith,
  c.requires.graph.counted,
  cut_one (shown c.args.self.now).links c.args.tail c.args.head c.requires.graph.faultless.is_net.single
      c.requires.stands,
)

rows : (c : After-remove_link_from_rows)
    → AreRows c.args.self.now.nodes (without c.args.tail c.args.head (shown c.args.self.now).links)
    c.remove_link_from_rows.new.rows
rows c =
    c.remove_link_from_rows.ensures.rows (shown c.args.self.now) (before (goal.at.After-remove_link_from_rows c).Start)

pub remove_link_from_rows-requires : goal.remove_link_from_rows-requires
remove_link_from_rows-requires c = (shown c.args.self.now, before (goal.at.remove_link_from_rows-requires c).Start)

pub returns-clause-graph : goal.returns-clause-graph
returns-clause-graph c =
    let at = goal.at.returns-clause-graph c in
    let g = c.args.self.now in
    let links = (shown g).links in
    let rest = without c.args.tail c.args.head links in
    let fit = fewer_fall links rest g.heights
    (λ u v. from_filter (λ (l : ℕ
    × ℕ). not (is_between c.args.tail c.args.head l)) links (u, v)) c.requires.graph.fit in
    graph_with_order _ rest (clear at.Start) (omega (arith, fewer at.Start)) (rows at.After-remove_link_from_rows)
    c.requires.graph.height_each fit

pub returns-clause-taken : goal.returns-clause-taken
returns-clause-taken c =
    let at = goal.at.returns-clause-taken c in
    network_of_rows c.args.self.now.nodes (without c.args.tail c.args.head (shown c.args.self.now).links)
    c.remove_link_from_rows.new.rows (clear at.Start) (rows at.After-remove_link_from_rows)
