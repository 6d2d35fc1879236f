use Rattle.fr_node.proofs.Stepping.{InTurn}
use Rattle.fr_node.proofs.Ticking.{after_ticking}
use Rattle.fr_node.proofs.node.Node.tick.Goals as goal

pub returns-clause-after : goal.returns-clause-after
returns-clause-after c =
    let turn : InTurn c.args.self.now c.tick_all.new.self c.finish_event.new.self = record {
      links = c.tick_all.ensures.same;
      own = c.finish_event.ensures.same;
      announces = c.finish_event.ensures.own;
      acts = c.finish_event.ensures.policy;
    } in λ _. after_ticking c.args.patience _ _ _ turn c.tick_all.ensures.links
