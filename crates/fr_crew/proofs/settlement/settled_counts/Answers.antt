use Rattle.fr_crew.proofs.Beginning.{counted}
use Rattle.fr_crew.proofs.settlement.settled_counts.Goals as goal

pub returns-then-settle_if_few-clause-settled : goal.returns-then-settle_if_few-clause-settled
returns-then-settle_if_few-clause-settled g c =
    counted c.args.net.now.nodes c.args.dest c.args.net.now.links c.network_law.ensures.is_net
    c.in_ok-test_destination.ensures.node c.settle_if_few.new.turns
    (c.settle_if_few.ensures.settled.0 c.if-settle_if_few.true)
