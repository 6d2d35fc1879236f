use Rattle.std.proofs.Common.{subst}
use Rattle.revroute_c.specs.NodeCalls.{IsSafeWay, OfNode}
use Rattle.revroute_c.proofs.node_state.NodeState.sends_to.Goals as goal

pub returns-clause-safe : goal.returns-clause-safe
returns-clause-safe c =
    subst (OfNode (IsSafeWay c.args.neighbour c.number.result) ⊥) c.self.view_is
    (λ is h. c.sends_to.ensures.safe (c.number.ensures.set is) h)
