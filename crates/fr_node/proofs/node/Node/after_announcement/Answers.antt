use Rattle.std.proofs.Common.{arith, inl, inr, ◌<◌}
use Rattle.fr_node.proofs.Histories.{Announces-lowered, Announces-raised}
use Rattle.fr_node.proofs.Policies.{falls_lower}
use Rattle.fr_node.proofs.node.Node.after_announcement.Goals as goal

pub returns-in-Some-clause-own : goal.returns-in-Some-clause-own
returns-in-Some-clause-own c =
    let n = c.args.self.now in
    let lower : c.in-Some.height < n.own.used = falls_lower n.policy.rise n c.in-Some.height c.in-Some.ensures in
    rw c.announce_lowered.ensures (Announces-lowered _ _ (omega (arith, lower)))

pub returns-in-Some-clause-policy : goal.returns-in-Some-clause-policy
returns-in-Some-clause-policy c = inl (record {
  height = c.in-Some.height;
  may = record {
    forwards = c.if-self.false;
    settled = c.uses_announced.ensures.0 c.if-not-uses_announced.false;
    number = omega (arith, c.if-self-2.false);
  };
  falls = c.in-Some.ensures;
  own = c.announce_lowered.ensures;
})

pub returns-in-Some-greater_height-clause-own : goal.returns-in-Some-greater_height-clause-own
returns-in-Some-greater_height-clause-own c = rw c.announce_raised.ensures (Announces-raised _ _ c.if-height-self.true)

pub returns-in-Some-greater_height-clause-policy : goal.returns-in-Some-greater_height-clause-policy
returns-in-Some-greater_height-clause-policy c = inr (inl (record {
  height = c.in-Some-greater_height.height;
  may = record {
    forwards = c.if-self.false;
    settled = c.uses_announced.ensures.0 c.if-not-uses_announced.false;
    number = omega (arith, c.if-self-2.false);
  };
  stays = c.in_default.ensures;
  rises = c.in-Some-greater_height.ensures;
  greater = c.if-height-self.true;
  own = c.announce_raised.ensures;
}))
