use Rattle.std.proofs.Common.{ap, arith, length, ◌∙◌, ◌≡◌}
use Rattle.std.proofs.lemmas.List.{length-map}
use Rattle.fr_node.specs.Links.{after_tick}
use Rattle.revroute_c.proofs.node_state.NodeState.tick.Goals as goal

pub invariant_of-self : goal.invariant_of-self
invariant_of-self c =
    let same : length c.tick.new.self.links.items ≡ length c.self.inside.node.links.items
    = ap length c.tick.ensures.links ∙ length-map c.self.inside.node.links.items (after_tick c.args.patience) in
    record {
      ways = omega (arith, same, c.self.invariant.ways);
      gates = omega (arith, same, c.self.invariant.gates);
    }
