use Rattle.std.proofs.Common.{ap, arith, ◌∙◌, ◌≡◌}
use Rattle.fr_graph.proofs.RowTables.{length_rows, packed_one_each, packed_row, packed_table}
use Rattle.fr_graph.specs.Tables.{places_of}
use Rattle.fr_graph.specs.declared.row_table.RowTable.TheInside.{Inside}
use Rattle.fr_graph.proofs.row_table.RowTable.packed.Goals as goal
use Rattle.fr_graph.proofs.row_table.RowTable.packed.Goals.{After-count_empty_rows-empty}

-- the fields of the table
abbrev made : (c : After-count_empty_rows-empty) → Inside
made c = record { places = c.in_ok-places.places; entries = c.args.entries; empty = c.count_empty_rows-empty.result }

places : (c : After-count_empty_rows-empty) → c.in_ok-places.places.items ≡ places_of c.args.starts.items
places c = c.in_ok-places.ensures ∙ ap places_of c.deref.ensures.value

pub invariant_of-result : goal.invariant_of-result
invariant_of-result c =
    let b = (goal.at.invariant_of-result c).After-count_empty_rows-empty in
    packed_table (made b) c.args.starts.items c.requires (places b)
    (rw c.deref-2.ensures.value at c.count_empty_rows-empty.ensures)

pub returns-clause-one_each : goal.returns-clause-one_each
returns-clause-one_each c =
    let b = (goal.at.returns-clause-one_each c).After-count_empty_rows-empty in
    omega (
      arith,
      length_rows (made b),
      packed_one_each (made b) c.args.starts.items c.requires (places b),
      c.requires.some,
    )

pub returns-clause-rows : goal.returns-clause-rows
returns-clause-rows c =
    let b = (goal.at.returns-clause-rows c).After-count_empty_rows-empty in
    packed_row (made b) c.args.starts.items c.requires (places b)
