use Rattle.std.proofs.Common.{ap, arith, length, ◌∙◌, ◌≡◌}
use Rattle.std.specs.List.{insert}
use Rattle.fr_graph.proofs.EditedNets.{length_beside, row_beside, row_rising, rows_added}
use Rattle.fr_graph.proofs.Neighbours.{neighbours_rise}
use Rattle.fr_graph.specs.Rows.{row}
use Rattle.fr_graph.specs.Tables.{Table, room_of, row_of}
use Rattle.fr_graph.specs.declared.first.First.TheVariants.{Outward}
use Rattle.fr_graph.proofs.edits.insert_link_in_rows.Goals as goal
use Rattle.fr_graph.proofs.edits.insert_link_in_rows.Goals.{After-insert_entry}

-- the row of the head is unchanged while that of the tail is written
beside : (c : After-insert_entry)
    → row_of c.insert_entry.new.rows c.args.head ≡ row c.requires.shown.0.nodes c.requires.shown.0.links c.args.head
beside c =
    let net = c.requires.shown.0 in
    let shown = c.requires.shown.1 in
    row_beside net.nodes net.links c.args.rows.now c.insert_entry.new.rows c.args.tail c.args.head
    (insert (row_of c.args.rows.now c.args.tail) c.insert_entry.ensures.0 (c.args.head, Outward)) shown.rows
    shown.nodes.head shown.nodes.apart c.insert_entry.ensures.2

pub insert_entry-requires-clause-row : goal.insert_entry-requires-clause-row
insert_entry-requires-clause-row c =
    let shown = c.requires.shown.1 in omega (arith, shown.nodes.tail, shown.rows.one_each)

pub insert_entry-requires-clause-few : goal.insert_entry-requires-clause-few
insert_entry-requires-clause-few c =
    let shown = c.requires.shown.1 in omega (arith, shown.nodes.head, shown.rows.one_each, c.requires.few)

pub insert_entry-requires-clause-rising : goal.insert_entry-requires-clause-rising
insert_entry-requires-clause-rising c =
    let net = c.requires.shown.0 in
    row_rising net.nodes net.links c.args.rows.now c.args.tail c.requires.shown.1.rows c.requires.shown.1.nodes.tail

pub insert_entry-requires-2-clause-row : goal.insert_entry-requires-2-clause-row
insert_entry-requires-2-clause-row c =
    let net = c.requires.shown.0 in
    let shown = c.requires.shown.1 in
    let long = length_beside net.nodes net.links c.args.rows.now c.insert_entry.new.rows c.args.tail
    (insert (row_of c.args.rows.now c.args.tail) c.insert_entry.ensures.0 (c.args.head, Outward)) shown.rows
    c.insert_entry.ensures.2 in
    omega (arith, shown.nodes.head, long)

pub insert_entry-requires-2-clause-few : goal.insert_entry-requires-2-clause-few
insert_entry-requires-2-clause-few c =
    let shown = c.requires.shown.1 in omega (arith, shown.nodes.tail, shown.rows.one_each, c.requires.few)

pub insert_entry-requires-2-clause-rising : goal.insert_entry-requires-2-clause-rising
insert_entry-requires-2-clause-rising c =
    rw (beside (goal.at.insert_entry-requires-2-clause-rising c).After-insert_entry)
    (neighbours_rise c.requires.shown.0.nodes c.requires.shown.0.links c.args.head)

pub insert_entry-requires-2-clause-room : goal.insert_entry-requires-2-clause-room
insert_entry-requires-2-clause-room c =
    let net = c.requires.shown.0 in
    let rooms : room_of c.insert_entry.new.rows c.args.head ≡ room_of c.args.rows.now c.args.head =
    ap (λ (t : Table). room_of t c.args.head) c.insert_entry.ensures.2 in
    let same = ap length (beside (goal.at.insert_entry-requires-2-clause-room c).After-insert_entry) in
    let first = ap length (c.requires.shown.1.rows.shown c.args.head c.requires.shown.1.nodes.head) in
    omega (arith, rooms, same, first, c.requires.room.head)

pub returns-clause-rows : goal.returns-clause-rows
returns-clause-rows c = λ net shown.
    let first = c.insert_entry.ensures in
    let second = c.insert_entry-2.ensures in
    rows_added net c.args.tail c.args.head first.0 second.0 c.args.rows.now c.insert_entry.new.rows
    c.insert_entry-2.new.rows shown first.1 first.2 second.1 second.2

pub returns-clause-rooms : goal.returns-clause-rooms
returns-clause-rooms c =
    ap (λ (t : Table). t.rooms) c.insert_entry-2.ensures.2 ∙ ap (λ (t : Table). t.rooms) c.insert_entry.ensures.2
