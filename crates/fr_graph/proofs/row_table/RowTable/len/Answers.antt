use Rattle.std.proofs.Common.{ap, arith, length}
use Rattle.fr_graph.proofs.RowTables.{length_rows}
use Rattle.fr_graph.specs.Tables.{Table}
use Rattle.fr_graph.proofs.row_table.RowTable.len.Goals as goal

pub overflow_sub-result : goal.overflow_sub-result
overflow_sub-result c = omega (arith, c.len.ensures, c.self.invariant.some, c.self.inside.places.ok.0)

pub returns : goal.returns
returns c =
    omega (
      arith,
      c.len.ensures,
      length_rows c.self.inside,
      ap (λ (t : Table). length t.rows) c.self.view_is,
      c.self.inside.places.ok.0,
    )
