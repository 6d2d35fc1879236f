use Rattle.std.proofs.Common.{rules, ap, arith, length, subst, sym, ◌∙◌, ◌≡◌}
use Rattle.revroute_c.specs.NodeCalls.{HearsMessage, InNode}
use Rattle.revroute_c.specs.contracts.node_state.NodeState.{the_view}
use Rattle.std.proofs.lemmas.List.{length-map}
use Rattle.fr_node.specs.declared.link.Link.{Link}
use Rattle.revroute_c.proofs.node_state.NodeState.hear_message.Goals as goal

pub invariant_of-self : goal.invariant_of-self
invariant_of-self c =
    let same : length c.hear.new.self.links.items ≡ length c.self.inside.node.links.items
    = sym (length-map c.hear.new.self.links.items (λ (l : Link). l.neighbour)) ∙ ap length c.hear.ensures.neighbours
    ∙ length-map c.self.inside.node.links.items (λ (l : Link). l.neighbour) in
    record {
      ways = omega (arith, same, c.self.invariant.ways);
      gates = omega (arith, same, c.self.invariant.gates);
    }

pub returns : goal.returns
returns c =
    subst (λ k. InNode (HearsMessage c.args.message.now c.match-hear.result) ⊥ k
    (the_view record { node = c.hear.new.self; ways = c.self.inside.ways; gates = c.self.inside.gates })) c.self.view_is
    record {
      heard = search rules;
      after = search rules;
      ignored = c.hear.ensures.ignored;
      later = search rules;
      statuses = search rules;
    }
