use Rattle.fr_crew.proofs.Beginning.{counted}
use Rattle.fr_crew.proofs.settlement.finish_counts.Goals as goal

pub finish_from-requires-clause-from : goal.finish_from-requires-clause-from
finish_from-requires-clause-from c = rw c.in-Some.is at c.requires.from

pub finish_from-requires-clause-lawful : goal.finish_from-requires-clause-lawful
finish_from-requires-clause-lawful c = c.requires.lawful

pub finish_from-requires-clause-node : goal.finish_from-requires-clause-node
finish_from-requires-clause-node c = c.requires.node

pub returns-in-Some : goal.returns-in-Some
returns-in-Some c = counted c.args.net.now.nodes c.args.dest c.args.net.now.links c.network_law.ensures.is_net
    c.requires.node c.finish_from.new.turns c.finish_from.ensures

pub returns-in-None : goal.returns-in-None
returns-in-None c = counted c.args.net.now.nodes c.args.dest c.args.net.now.links c.network_law.ensures.is_net
    c.requires.node c.finish_turns-turns.new.turns c.finish_turns-turns.ensures.settled
