use Rattle.std.proofs.Common.{subst, sym}
use Rattle.fr_node.specs.declared.node.Node.{Node}
use Rattle.fr_node.specs.Links.{SetsCost, with_cost}
use Rattle.fr_node.proofs.Stepping.{InTurn, after_changing, cost_same}
use Rattle.fr_node.proofs.node.Node.set_cost.Goals as goal

pub returns : goal.returns
returns c =
    let old = c.args.self.now in
    let turn : InTurn old c.set_link_cost.new.self c.finish_event.new.self = record {
      links = c.set_link_cost.ensures.same;
      own = c.finish_event.ensures.same;
      announces = c.finish_event.ensures.own;
      acts = c.finish_event.ensures.policy;
    } in record {
      set =
          subst (λ (n : Node). SetsCost c.args.neighbour c.args.cost old.links.items n.links.items)
          (sym c.finish_event.ensures.same)
          c.set_link_cost.ensures.set;
      after = after_changing (with_cost c.args.cost) (cost_same c.args.cost) c.args.neighbour _ _ _ turn c.set_link_cost.ensures.set;
    }
