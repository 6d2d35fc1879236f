use Rattle.std.proofs.Common.{sym, ◌∙◌}
use Rattle.fr_ways.proofs.Holding.{held_as}
use Rattle.fr_ways.proofs.Rows.{laid_out}
use Rattle.fr_ways.proofs.reserved_rows.Rows.as_list.Goals as goal

pub returns : goal.returns
returns c =
    let held = held_as c.self.inside c.args.self.now c.self.invariant c.self.view_is in
    record {
      nodes = c.as_slice.ensures.value ∙ sym held.nodes;
      rows = rw (c.as_slice-2.ensures.value, c.as_slice-3.ensures.value, held.rows)
          (laid_out c.self.inside.list.items c.self.inside.starts.items c.self.invariant.rows);
    }
