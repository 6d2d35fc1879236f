use Rattle.fr_node.proofs.Policies.{will_gates_stay_open}
use Rattle.fr_node.proofs.node.Node.may_use_announced.Goals as goal

pub returns-else-not-self : goal.returns-else-not-self
returns-else-not-self c =
    let is =
    will_gates_stay_open c.args.self.now.own c.args.self.now.links.items _ c.will_gates_stay_open.result
    c.deref.ensures.value
    c.will_gates_stay_open.ensures in
    (λ t _. is.0 t, λ may. is.1 (may c.if-not-self.false))
