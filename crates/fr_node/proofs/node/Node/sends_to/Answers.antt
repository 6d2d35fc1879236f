use Rattle.std.proofs.Common.{false, sym, ◌≡◌, ◌∙◌}
use Rattle.fr_node.proofs.Linking.{is_at}
use Rattle.fr_node.proofs.Stepping.{way_at}
use Rattle.fr_node.proofs.node.Node.sends_to.Goals as goal

pub returns-then-not-self-clause-safe : goal.returns-then-not-self-clause-safe
returns-then-not-self-clause-safe c = λ way h.
    let router : c.args.self.now.gateway ≡ false = c.if-not-self.true in
    way_at c.args.self.now c.args.neighbour c.in-Some.i c.index.result.now
    (is_at _ _ _ _ c.in-Some.ensures c.index.ensures) router
    (sym c.is_way.ensures ∙ way) h
