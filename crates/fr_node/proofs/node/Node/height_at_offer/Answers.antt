use Rattle.fr_node.proofs.Policies.{are_gates_open, false_true}
use Rattle.fr_node.proofs.node.Node.height_at_offer.Goals as goal

pub returns-in_default : goal.returns-in_default
returns-in_default c =
    let n = c.args.self.now in
    λ v offer. false_true _ c.if-are_gates_open.false ((are_gates_open n.own n.links.items _ c.are_gates_open.result
    c.deref-then-from-self.ensures.value c.are_gates_open.ensures).1 offer.answered)
