use Rattle.std.proofs.Common.{ap, arith, ℕ, ◌<◌, ◌∙◌, ◌≡◌, ◌≢◌}
use Rattle.std.specs.List.{remove}
use Rattle.fr_graph.proofs.EditedNets.{end_listed, joined_apart, joins_back, length_beside, row_beside, row_rising}
use Rattle.fr_graph.proofs.EditedNets.{rows_cut}
use Rattle.fr_graph.proofs.Linking.{joined_below}
use Rattle.fr_graph.proofs.Neighbours.{neighbours_rise}
use Rattle.fr_graph.specs.KeptRows.{ShowsLink}
use Rattle.fr_graph.specs.Network.{Network}
use Rattle.fr_graph.specs.Rows.{row}
use Rattle.fr_graph.specs.Tables.{Table, row_of}
use Rattle.fr_graph.proofs.edits.remove_link_from_rows.Goals as goal
use Rattle.fr_graph.proofs.edits.remove_link_from_rows.Goals.{After-remove_entry}

below : (net : Network) (u v : ℕ) (table : Table) → ShowsLink net u v table → (u < net.nodes) × (v < net.nodes)
below net u v table shown = joined_below net.nodes net.links u v shown.is_net shown.joins

apart : (net : Network) (u v : ℕ) (table : Table) → ShowsLink net u v table → u ≢ v
apart net u v table shown = joined_apart net.nodes net.links u v shown.is_net shown.joins

-- the row of v is unchanged while that of u is written
beside : (c : After-remove_entry)
    → row_of c.remove_entry.new.rows c.args.v ≡ row c.requires.0.nodes c.requires.0.links c.args.v
beside c =
    let net = c.requires.0 in
    let shown = c.requires.1 in
    row_beside net.nodes net.links c.args.rows.now c.remove_entry.new.rows c.args.u c.args.v
    (remove (row_of c.args.rows.now c.args.u) c.remove_entry.ensures.0) shown.rows
    (below net c.args.u c.args.v c.args.rows.now shown).1 (apart net c.args.u c.args.v c.args.rows.now shown)
    c.remove_entry.ensures.2

pub remove_entry-requires-clause-row : goal.remove_entry-requires-clause-row
remove_entry-requires-clause-row c =
    omega (arith, (below c.requires.0 c.args.u c.args.v c.args.rows.now c.requires.1).0, c.requires.1.rows.one_each)

pub remove_entry-requires-clause-rising : goal.remove_entry-requires-clause-rising
remove_entry-requires-clause-rising c =
    let net = c.requires.0 in
    row_rising net.nodes net.links c.args.rows.now c.args.u c.requires.1.rows
    (below net c.args.u c.args.v c.args.rows.now c.requires.1).0

pub remove_entry-requires-clause-stands : goal.remove_entry-requires-clause-stands
remove_entry-requires-clause-stands c =
    let net = c.requires.0 in
    let shown = c.requires.1 in
    rw (shown.rows.shown c.args.u (below net c.args.u c.args.v c.args.rows.now shown).0)
    (end_listed net.nodes net.links c.args.u c.args.v shown.is_net shown.joins)

pub remove_entry-requires-2-clause-row : goal.remove_entry-requires-2-clause-row
remove_entry-requires-2-clause-row c =
    let net = c.requires.0 in
    let shown = c.requires.1 in
    let long = length_beside net.nodes net.links c.args.rows.now c.remove_entry.new.rows c.args.u
    (remove (row_of c.args.rows.now c.args.u) c.remove_entry.ensures.0) shown.rows c.remove_entry.ensures.2 in
    omega (arith, (below net c.args.u c.args.v c.args.rows.now shown).1, long)

pub remove_entry-requires-2-clause-rising : goal.remove_entry-requires-2-clause-rising
remove_entry-requires-2-clause-rising c =
    rw (beside (goal.at.remove_entry-requires-2-clause-rising c).After-remove_entry)
    (neighbours_rise c.requires.0.nodes c.requires.0.links c.args.v)

pub remove_entry-requires-2-clause-stands : goal.remove_entry-requires-2-clause-stands
remove_entry-requires-2-clause-stands c =
    let net = c.requires.0 in
    let shown = c.requires.1 in
    rw (beside (goal.at.remove_entry-requires-2-clause-stands c).After-remove_entry)
    (end_listed net.nodes net.links c.args.v c.args.u shown.is_net (joins_back net.links c.args.u c.args.v shown.joins))

pub returns-clause-rows : goal.returns-clause-rows
returns-clause-rows c = λ net shown.
    let first = c.remove_entry.ensures in
    let second = c.remove_entry-2.ensures in
    rows_cut net c.args.u c.args.v first.0 second.0 c.args.rows.now c.remove_entry.new.rows c.remove_entry-2.new.rows
    shown first.1 first.2 second.1 second.2

pub returns-clause-rooms : goal.returns-clause-rooms
returns-clause-rooms c =
    ap (λ (t : Table). t.rooms) c.remove_entry-2.ensures.2 ∙ ap (λ (t : Table). t.rooms) c.remove_entry.ensures.2
