use Rattle.fr_ways.proofs.Rows.{starts_are}
use Rattle.fr_ways.proofs.table.WayTable.starts.Goals as goal

pub returns : goal.returns
returns c = rw (c.as_slice.ensures.value, ← c.self.view_is)
    (starts_are c.self.inside.list.items c.self.inside.starts.items c.self.invariant)
