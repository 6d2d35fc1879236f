use Rattle.std.proofs.Common.{sym, ◌∙◌}
use Rattle.fr_ways.proofs.Holding.{list_firsts, list_seconds}
use Rattle.fr_ways.proofs.plan.Pushes.as_list.Goals as goal

pub returns : goal.returns
returns c nodes list_of are = record {
  nodes = c.as_slice.ensures.value ∙ (are.these ∙ sym (list_firsts list_of nodes));
  rows = rw (list_seconds list_of nodes, ← are.lists) (record { begins = c.starts.ensures; all = sym c.list.ensures });
}
