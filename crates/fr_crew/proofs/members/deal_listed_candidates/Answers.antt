use Rattle.std.proofs.Common.{◌∙◌}
use Rattle.fr_crew.proofs.members.deal_listed_candidates.Goals as goal

pub loop-turn-preserved : goal.loop-turn-preserved
loop-turn-preserved g c = record {
  long = c.deal_node.auto.members ∙ c.loop-turn.invariant.long;
  own = λ own each. c.deal_node.ensures.own own (c.loop-turn.invariant.own own each);
}
