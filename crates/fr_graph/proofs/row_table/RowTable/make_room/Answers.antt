use Rattle.std.proofs.Common.{arith, ◌+◌}
use Rattle.fr_graph.proofs.RowTables.{IsRowAt, end_read, row_at, start_read}
use Rattle.fr_graph.proofs.row_table.RowTable.make_room.Goals as goal
use Rattle.fr_graph.proofs.row_table.RowTable.make_room.Goals.{After-self}

place : (c : After-self) → IsRowAt c.self.inside c.args.self.now c.args.x
place c = row_at c.self.inside c.args.self.now c.args.x c.self.invariant c.self.view_is c.requires

pub index-requires : goal.index-requires
index-requires c = omega (arith, (place (goal.at.index-requires c).After-self).next, c.self.inside.places.ok.0)

pub index-requires-2 : goal.index-requires-2
index-requires-2 c = omega (arith, (place (goal.at.index-requires-2 c).After-self).next, c.self.inside.places.ok.0)

pub returns-else-index-clause-room : goal.returns-else-index-clause-room
returns-else-index-clause-room c =
    let row = place (goal.at.returns-else-index-clause-room c).After-self in
    let end = end_read c.self.inside c.args.x c.index.result.now (omega (arith, row.next)) c.index.ensures in
    let next =
    start_read c.self.inside (c.args.x + 1) c.index-2.result.now (omega (arith, row.next)) c.index-2.ensures in
    omega (arith, end, next, row.low, row.high, row.long, row.room, c.if-index.false)
