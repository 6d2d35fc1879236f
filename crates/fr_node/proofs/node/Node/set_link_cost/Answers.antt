use Rattle.std.proofs.Common.{refl}
use Rattle.fr_node.specs.Links.{with_cost}
use Rattle.fr_node.proofs.Linking.{changes_at, is_at}
use Rattle.fr_node.proofs.node.Node.set_link_cost.Goals as goal

pub returns-in-Some-clause-set : goal.returns-in-Some-clause-set
returns-in-Some-clause-set c = rw c.with_cost.ensures
    (changes_at (with_cost _) (λ l. refl) _ _ _ _ (is_at _ _ _ _ c.in-Some.ensures c.index.ensures))
