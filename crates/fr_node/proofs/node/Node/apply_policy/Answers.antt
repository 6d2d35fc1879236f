use Rattle.fr_node.proofs.Histories.{Announces-settled, Announces-then}
use Rattle.fr_node.proofs.node.Node.apply_policy.Goals as goal

pub returns-then-may_use_announced-clause-own : goal.returns-then-may_use_announced-clause-own
returns-then-may_use_announced-clause-own c = rw c.with_announced_used-self.ensures
    (Announces-then _ _ _ c.after_announcement-self.ensures.own (Announces-settled _))

pub returns-then-may_use_announced-clause-policy : goal.returns-then-may_use_announced-clause-policy
returns-then-may_use_announced-clause-policy c = record {
  said = c.after_announcement-self.result;
  announces = c.after_announcement-self.ensures.policy;
  settles = record {
    used = λ _. c.with_announced_used-self.ensures;
    waits = λ no. absurd (no (c.may_use_announced.ensures.0 c.if-may_use_announced.true));
  };
}
