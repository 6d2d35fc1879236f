use Rattle.std.proofs.Common.{ap, ◌∙◌}
use Rattle.std.specs.List.{concat}
use Rattle.fr_ways.proofs.Rows.{concat_rows}
use Rattle.fr_ways.proofs.table.WayTable.list.Goals as goal

pub returns : goal.returns
returns c = c.as_slice.ensures.value
    ∙ (concat_rows c.self.inside.list.items c.self.inside.starts.items c.self.invariant ∙ ap concat c.self.view_is)
