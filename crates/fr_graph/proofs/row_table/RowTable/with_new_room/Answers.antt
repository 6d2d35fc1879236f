use Rattle.std.proofs.Common.{List, [], ap, arith, length, ◌++◌, ◌<◌, ◌∙◌, ◌∷◌, ◌≡◌, ℕ}
use Rattle.fr_graph.proofs.LaidOut.{AreLaidOut, all_have_room, one_more_laid_out, room_kept, rooms_counted}
use Rattle.fr_graph.proofs.LaidOut.{rows_counted, same_rows}
use Rattle.fr_graph.specs.declared.first.First.{First}
use Rattle.fr_graph.proofs.row_table.RowTable.with_new_room.Goals as goal
use Rattle.fr_graph.proofs.row_table.RowTable.with_new_room.Goals.{After-loop-x, In-loop-x}

is_row : (c : In-loop-x) → c.loop-x.x < length c.args.self.now.rows
is_row c =
    omega (
      arith,
      c.loop-x-test.true,
      c.len-rows.ensures,
      c.self.inside.places.ok.0,
      rows_counted c.self.inside c.args.self.now c.self.view_is,
    )

pub row_at-requires : goal.row_at-requires
row_at-requires c = is_row (goal.at.row_at-requires c).In-loop-x

pub new_row_room-requires : goal.new_row_room-requires
new_row_room-requires c = is_row (goal.at.new_row_room-requires c).In-loop-x

pub loop-x-preserved : goal.loop-x-preserved
loop-x-preserved c =
    one_more_laid_out c.args.self.now c.args.keeps_room c.loop-x.x c.loop-x.table c.in_ok-table-2.table
    c.new_row_room.result
    c.loop-x.invariant (is_row (goal.at.loop-x-preserved c).In-loop-x)
    (c.in_ok-table-2.ensures.rows ∙ ap (λ (row : List (ℕ × First)). c.loop-x.table.rows ++ row ∷ []) c.row_at.ensures)
    c.in_ok-table-2.ensures.rooms c.new_row_room.ensures.room c.new_row_room.ensures.kept

all_laid_out : (c : After-loop-x)
    → AreLaidOut c.args.self.now c.args.keeps_room (length c.args.self.now.rows) c.loop-x.table
all_laid_out c =
    let all : c.loop-x.x ≡ length c.args.self.now.rows =
    omega (
      arith,
      c.loop-x-test.false,
      c.loop-x.auto.x-end,
      c.len-rows.ensures,
      c.self.inside.places.ok.0,
      rows_counted c.self.inside c.args.self.now c.self.view_is,
    ) in
    rw all at c.loop-x.invariant

pub returns-clause-rows : goal.returns-clause-rows
returns-clause-rows c = same_rows c.args.self.now c.args.keeps_room c.loop-x.table (all_laid_out c)

pub returns-clause-room : goal.returns-clause-room
returns-clause-room c = all_have_room c.args.self.now c.args.keeps_room c.loop-x.table (all_laid_out c)

pub returns-clause-kept : goal.returns-clause-kept
returns-clause-kept c =
    room_kept c.args.self.now c.args.keeps_room c.loop-x.table
    (rooms_counted c.self.inside c.args.self.now c.self.view_is) (all_laid_out c)
