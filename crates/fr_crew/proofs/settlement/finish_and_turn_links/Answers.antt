use Rattle.std.proofs.Common.{arith}
use Rattle.fr_core.specs.Settled.{AreSettled}
use Rattle.fr_core.proofs.Totals.{settled_within}
use Rattle.fr_core.proofs.Unique.{settled_lawful}
use Rattle.fr_crew.proofs.settlement.finish_and_turn_links.Goals as goal

pub turn-requires-clause-kept : goal.turn-requires-clause-kept
turn-requires-clause-kept c =
    (settled_lawful c.args.net.nodes c.args.dest c.args.net.links c.network_law.ensures.is_net c.requires.node
    c.finish_turns-by_finisher.new.turns c.finish_turns-by_finisher.ensures.settled).kept

pub returns-clause-settled : goal.returns-clause-settled
returns-clause-settled c =
    let n = c.args.net.nodes in
    let d = c.args.dest in
    let first = c.args.net.links in
    let counts = c.finish_turns-by_finisher.new.turns in
    let settled : AreSettled n d first counts = c.finish_turns-by_finisher.ensures.settled in
    let sums = c.finish_turns-by_finisher.ensures.run.adds in
    let same = c.into_counts.ensures in
    record {
      destination = c.requires.node;
      counts = rw same settled;
      links = rw same c.turn.ensures.is;
      turns = rw same (omega (arith, c.requires.turned, sums));
      most = rw same (settled_within n d first c.network_law.ensures.is_net c.requires.node counts settled);
    }

pub returns-clause-finisher : goal.returns-clause-finisher
returns-clause-finisher c = rw c.into_counts.ensures c.finish_turns-by_finisher.ensures.run
