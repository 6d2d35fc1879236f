use Rattle.std.proofs.Common.{Bool, IsTrue, [], arith, false, inl, inr, refl, subst, sym, true, ◌↔◌, ◌≡◌, ◌≢◌}
use Rattle.fr_node.specs.declared.node.Node.{Node}
use Rattle.fr_node.specs.Events.{IsAfterEvent}
use Rattle.fr_node.specs.Policies.{Acts}
use Rattle.revroute_c.specs.NodeCalls.{ActsAgain, InNode, number_of_flag}
use Rattle.revroute_c.specs.contracts.node_state.NodeState.{the_view}
use Rattle.revroute_c.proofs.node_state.NodeState.act.Goals as goal

unset : ¬ IsTrue false
unset set = cc

acts_again : (flag : Bool) (k j : Node) → Acts k j.own → j.links ≡ k.links → IsTrue flag ↔ (j.own ≢ k.own)
    → (IsTrue flag → IsAfterEvent [] k j) → (¬ IsTrue flag → j ≡ k) → ActsAgain (number_of_flag flag) k j
acts_again true k j policy links changed after kept = record {
  policy = policy;
  links = links;
  changed = (λ one. changed.0 refl, λ other. refl);
  after = λ one. after refl;
  kept = λ zero. absurd (omega (arith, zero));
  flags = inr refl;
}
acts_again false k j policy links changed after kept = record {
  policy = policy;
  links = links;
  changed = (λ one. absurd (omega (arith, one)), λ other. absurd (unset (changed.1 other)));
  after = λ one. absurd (omega (arith, one));
  kept = λ zero. kept unset;
  flags = inl refl;
}

pub returns : goal.returns
returns c =
    subst (λ k. InNode (ActsAgain c.number.result) ⊥ k
    (the_view record { node = c.act.new.self; ways = c.self.inside.ways; gates = c.self.inside.gates })) c.self.view_is
    (subst (λ flag. ActsAgain flag c.self.inside.node c.act.new.self) (sym c.number.ensures.value)
    (acts_again c.act.result c.self.inside.node c.act.new.self c.act.ensures.policy c.act.ensures.links
    c.act.ensures.changed c.act.ensures.after c.act.ensures.kept))
