use Rattle.std.proofs.Common.{true, subst, sym}
use Rattle.fr_node.specs.declared.node.Node.{Node}
use Rattle.fr_node.specs.Links.{SetsUp, with_carrier}
use Rattle.fr_node.proofs.Stepping.{InTurn, after_changing, carrier_same}
use Rattle.fr_node.proofs.node.Node.link_up.Goals as goal

pub returns : goal.returns
returns c =
    let old = c.args.self.now in
    let turn : InTurn old c.set_link_up.new.self c.finish_event.new.self = record {
      links = c.set_link_up.ensures.same;
      own = c.finish_event.ensures.same;
      announces = c.finish_event.ensures.own;
      acts = c.finish_event.ensures.policy;
    } in record {
      set =
          subst (λ (n : Node). SetsUp c.args.neighbour true old.links.items n.links.items)
          (sym c.finish_event.ensures.same)
          c.set_link_up.ensures.set;
      after = after_changing (with_carrier true) (carrier_same true) c.args.neighbour _ _ _ turn c.set_link_up.ensures.set;
    }
