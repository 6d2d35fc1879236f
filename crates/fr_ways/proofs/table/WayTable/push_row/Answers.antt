use Rattle.std.proofs.Common.{ap, arith, length, ◌++◌, ◌≡◌}
use Rattle.fr_ways.proofs.Rows.{row_pushed, still_rows}
use Rattle.fr_ways.proofs.table.WayTable.push_row.Goals as goal
use Rattle.fr_ways.proofs.table.WayTable.push_row.Goals.{After-push_reserved}

long : (c : After-push_reserved) → c.len.result ≡ length (c.self.inside.list.items ++ c.args.ways.now)
long c = omega (
  arith,
  c.len.ensures,
  c.extend_from_slice.new.self.ok.0,
  ap length c.in_ok-extend_from_slice.ensures.items,
)

pub invariant_of-self-2 : goal.invariant_of-self-2
invariant_of-self-2 c = rw (
  c.push_reserved.ensures.items,
  c.reserve.ensures.items,
  c.in_ok-extend_from_slice.ensures.items,
  long (goal.at.invariant_of-self-2 c).After-push_reserved,
) (still_rows c.self.inside.list.items c.self.inside.starts.items c.args.ways.now c.self.invariant)

pub returns-clause-added : goal.returns-clause-added
returns-clause-added c = rw (
  c.push_reserved.ensures.items,
  c.reserve.ensures.items,
  c.in_ok-extend_from_slice.ensures.items,
  long (goal.at.returns-clause-added c).After-push_reserved,
  ← c.self.view_is,
) (row_pushed c.self.inside.list.items c.self.inside.starts.items c.args.ways.now c.self.invariant)
