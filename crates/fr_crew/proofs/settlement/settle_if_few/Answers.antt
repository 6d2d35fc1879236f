use Rattle.fr_crew.proofs.Beginning.{still_settled, zeros_hold}
use Rattle.fr_crew.proofs.settlement.settle_if_few.Goals as goal

pub finish_if_few-requires-clause-from : goal.finish_if_few-requires-clause-from
finish_if_few-requires-clause-from c =
    rw c.requires.begin.none
    (zeros_hold c.args.net.now c.args.dest c.in-Some.from.now (rw c.in-Some.is at c.requires.begin.from_sinks))

pub returns-in-Some-clause-still : goal.returns-in-Some-clause-still
returns-in-Some-clause-still c = λ settled.
    c.finish_if_few.ensures.settled.1
    (still_settled c.args.net.now.nodes c.args.dest c.args.net.now.links c.finish_if_few.new.turns settled
    c.finish_if_few.ensures.lawful)
