use Rattle.fr_node.proofs.Stepping.{InTurn, after_hearing}
use Rattle.fr_node.proofs.node.Node.hear.Goals as goal

pub returns-then-take_message-clause-after : goal.returns-then-take_message-clause-after
returns-then-take_message-clause-after c =
    let turn : InTurn c.args.self.now c.take_message.new.self c.finish_event.new.self = record {
      links = c.take_message.ensures.same;
      own = c.finish_event.ensures.same;
      announces = c.finish_event.ensures.own;
      acts = c.finish_event.ensures.policy;
    } in λ _. after_hearing c.args.message.now _ _ _ turn c.take_message.ensures.heard
