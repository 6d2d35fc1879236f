use Rattle.fr_node.proofs.Linking.{hears_at, is_at}
use Rattle.fr_node.proofs.node.Node.take_message.Goals as goal

pub returns-clause-heard : goal.returns-clause-heard
returns-clause-heard c = hears_at _ _ _ _ _ _
    (is_at _ _ _ _ c.in-Some.ensures c.index.ensures) c.after_message.ensures c.if-message-self.false
    (c.takes.ensures.0 c.if-not-takes.false)
