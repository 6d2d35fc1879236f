use Rattle.std.proofs.Common.{subst}
use Rattle.fr_graph.proofs.Rising.{links_rise}
use Rattle.fr_graph.specs.Graph.{shown}
use Rattle.fr_graph.specs.Network.{Network}
use Rattle.fr_graph.specs.Order.{AreRising}
use Rattle.fr_graph.proofs.network.Net.link_order_law.Goals as goal

pub returns : goal.returns
returns c = subst (λ (m : Network). AreRising m.links) c.self.view_is
    (links_rise (shown c.self.inside.graph).links c.self.invariant.sorted c.self.invariant.faultless.is_net.single)
