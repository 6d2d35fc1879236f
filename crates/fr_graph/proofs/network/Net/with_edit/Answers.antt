use Rattle.std.proofs.Common.{ap, subst, ◌∙◌}
use Rattle.fr_graph.specs.Batches.{IsMade}
use Rattle.fr_graph.specs.Graph.{shown}
use Rattle.fr_graph.specs.Network.{Network}
use Rattle.fr_graph.proofs.network.Net.with_edit.Goals as goal

pub returns-clause-ok : goal.returns-clause-ok
returns-clause-ok c =
    subst (λ (m : Network). IsMade m c.args.edit (shown c.edit.new.self)) (ap shown c.in_ok-graph.ensures
    ∙ c.self.view_is) c.in_ok-edit.ensures.ok.made
