use Rattle.fr_graph.proofs.PartTurned.{rises_from}
use Rattle.fr_graph.proofs.Places.{rises_by}
use Rattle.fr_graph.specs.Tables.{row_of}
use Rattle.fr_graph.proofs.edits.insert_entry.Goals as goal

pub place_in_row-place-requires : goal.place_in_row-place-requires
place_in_row-place-requires c =
    rw c.row.ensures (rises_by (row_of c.args.rows.now c.args.x)
    (rises_from (row_of c.args.rows.now c.args.x) c.requires.rising))

pub insert-requires-clause-place : goal.insert-requires-clause-place
insert-requires-clause-place c = (rw c.row.ensures at c.place_in_row-place.ensures).inside

pub returns : goal.returns
returns c =
    let found = rw c.row.ensures at c.place_in_row-place.ensures in (
      c.place_in_row-place.result,
      record { inside = found.inside; before = found.before; stops = found.stops },
      c.insert.ensures,
    )
