use Rattle.fr_ways.proofs.Rows.{no_rows}
use Rattle.fr_ways.proofs.table.WayTable.clear.Goals as goal

pub invariant_of-self : goal.invariant_of-self
invariant_of-self c = rw (c.clear.ensures.items, c.truncate.ensures.items)
    (no_rows c.self.inside.list.items c.self.inside.starts.items c.self.invariant).0

pub returns : goal.returns
returns c = rw (c.clear.ensures.items, c.truncate.ensures.items)
    (no_rows c.self.inside.list.items c.self.inside.starts.items c.self.invariant).1
