use Rattle.fr_node.proofs.Stepping.{after_acting}
use Rattle.fr_node.proofs.node.Node.act.Goals as goal

pub returns-clause-after : goal.returns-clause-after
returns-clause-after c = λ _. after_acting c.args.self.now c.apply_policy.new.self _ c.apply_policy.ensures.same
    c.count_event.ensures c.apply_policy.ensures.own c.apply_policy.ensures.policy
