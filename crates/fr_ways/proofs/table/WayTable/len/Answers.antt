use Rattle.std.proofs.Common.{List, ap, arith, length, ℕ}
use Rattle.fr_ways.proofs.Rows.{length_rows}
use Rattle.fr_ways.proofs.table.WayTable.len.Goals as goal

pub returns : goal.returns
returns c = omega (
  arith,
  c.len.ensures,
  c.self.inside.starts.ok.0,
  length_rows c.self.inside.list.items c.self.inside.starts.items c.self.invariant,
  ap (λ (t : List (List ℕ)). length t) c.self.view_is,
)
