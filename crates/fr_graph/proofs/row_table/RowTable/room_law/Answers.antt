use Rattle.std.proofs.Common.{[], ap, arith, inl, inr, length, ◌≡◌}
use Rattle.std.proofs.lemmas.Bool.{cases_lt}
use Rattle.std.proofs.lemmas.List.{get_or_past}
use Rattle.fr_graph.proofs.RowTables.{row_at}
use Rattle.fr_graph.specs.Tables.{row_of}
use Rattle.fr_graph.proofs.row_table.RowTable.room_law.Goals as goal

pub returns : goal.returns
returns c = λ x. elim (cases_lt x (length c.args.self.now.rows)) [
  | inl inside ↦
      let at = row_at c.self.inside c.args.self.now x c.self.invariant c.self.view_is inside in
      omega (arith, at.long, at.room, at.low, at.high)
  | inr past ↦ let none : row_of c.args.self.now x ≡ [] =
      get_or_past c.args.self.now.rows x [] past in omega (arith, ap length none)
]
