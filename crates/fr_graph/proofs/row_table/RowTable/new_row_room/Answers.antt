use Rattle.std.proofs.Common.{arith, ◌+◌, ◌≡◌}
use Rattle.fr_graph.proofs.RowTables.{IsRowAt, row_at, start_read}
use Rattle.fr_graph.specs.Tables.{start_of}
use Rattle.fr_graph.proofs.row_table.RowTable.new_row_room.Goals as goal
use Rattle.fr_graph.proofs.row_table.RowTable.new_row_room.Goals.{After-index-2, After-self}

place : (c : After-self) → IsRowAt c.self.inside c.args.self.now c.args.x
place c = row_at c.self.inside c.args.self.now c.args.x c.self.invariant c.self.view_is c.requires

next_is : (c : After-index-2) → c.index.result.now.start ≡ start_of c.self.inside (c.args.x + 1)
next_is c =
    start_read c.self.inside (c.args.x + 1) c.index.result.now (omega (
      arith,
      (place (goal.at.After-index-2 c).After-self).next,
    )) c.index.ensures

start_is : (c : After-index-2) → c.index-2.result.now.start ≡ start_of c.self.inside c.args.x
start_is c =
    start_read c.self.inside c.args.x c.index-2.result.now (omega (
      arith,
      (place (goal.at.After-index-2 c).After-self).next,
    )) c.index-2.ensures

pub overflow_add-x : goal.overflow_add-x
overflow_add-x c = omega (
  arith,
  (place (goal.at.overflow_add-x c).After-self).next,
  c.self.inside.places.ok.0,
  c.self.inside.places.ok.1,
  c.self.inside.places.small,
)

pub index-requires : goal.index-requires
index-requires c = omega (arith, (place (goal.at.index-requires c).After-self).next, c.self.inside.places.ok.0)

pub index-requires-2 : goal.index-requires-2
index-requires-2 c = omega (arith, (place (goal.at.index-requires-2 c).After-self).next, c.self.inside.places.ok.0)

pub overflow_sub-held : goal.overflow_sub-held
overflow_sub-held c =
    let b = goal.at.overflow_sub-held c in
    let row = place b.After-self in
    omega (arith, next_is b.After-index-2, start_is b.After-index-2, row.low, row.high)

pub returns-then-keeps_room-clause-kept : goal.returns-then-keeps_room-clause-kept
returns-then-keeps_room-clause-kept c =
    let b = goal.at.returns-then-keeps_room-clause-kept c in
    let row = place b.After-self in
    λ _. omega (arith, next_is b.After-index-2, start_is b.After-index-2, row.room, c.max.ensures)
