use Rattle.std.proofs.Common.{refl}
use Rattle.fr_core.proofs.Turning.{can_turn_below}
use Rattle.fr_core.specs.History.{moment_of}
use Rattle.test_networks.proofs.finishing.hold_all.Goals as goal

pub returns-then-are_nodes : goal.returns-then-are_nodes
returns-then-are_nodes c = λ all.
    let net = c.args.net.now in
    let known = c.network_law.ensures.is_net in
    record {
      nodes = c.are_nodes.ensures c.if-are_nodes.true;
      all =
          λ x can. c.miss_none.ensures all x
          (can_turn_below net.nodes c.args.dest net.links known (moment_of net.links c.args.counts.now) refl x can) can;
    }
