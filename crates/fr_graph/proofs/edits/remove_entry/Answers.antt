use Rattle.fr_graph.proofs.PartTurned.{neighbour_in, rises_from}
use Rattle.fr_graph.proofs.Places.{neighbour_at, rises_by}
use Rattle.fr_graph.specs.Tables.{row_of}
use Rattle.fr_graph.proofs.edits.remove_entry.Goals as goal

pub place_in_row-place-requires : goal.place_in_row-place-requires
place_in_row-place-requires c =
    rw c.row.ensures (rises_by (row_of c.args.rows.now c.args.x)
    (rises_from (row_of c.args.rows.now c.args.x) c.requires.rising))

pub remove-requires-clause-place : goal.remove-requires-clause-place
remove-requires-clause-place c =
    let es = row_of c.args.rows.now c.args.x in
    let found = rw c.row.ensures at c.place_in_row-place.ensures in
    let there = neighbour_in es c.args.w c.requires.stands in
    (neighbour_at es c.args.w c.place_in_row-place.result there.0 (rises_from es c.requires.rising) there.1
    found.before found.stops).0

pub returns : goal.returns
returns c =
    let found = rw c.row.ensures at c.place_in_row-place.ensures in (
      c.place_in_row-place.result,
      record { inside = found.inside; before = found.before; stops = found.stops },
      c.remove.ensures,
    )
