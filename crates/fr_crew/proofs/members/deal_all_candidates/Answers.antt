use Rattle.std.proofs.Common.{◌∙◌}
use Rattle.fr_crew.proofs.members.deal_all_candidates.Goals as goal

pub loop-x-preserved : goal.loop-x-preserved
loop-x-preserved g c = record {
  long = c.deal_node.auto.members ∙ c.loop-x.invariant.long;
  own = λ own each. c.deal_node.ensures.own own (c.loop-x.invariant.own own each);
}
