use Rattle.std.proofs.lemmas.Bool.{false≢true}
use Rattle.fr_tables.specs.Inside.{IsPutInOrder}
use Rattle.fr_tables.proofs.push_room.PushRoom.order.Goals as goal

pub returns-then-not-order_few-clause-order : goal.returns-then-not-order_few-clause-order
returns-then-not-order_few-clause-order c = λ old _ at.
    let order : IsPutInOrder c.args.new.now c.args.changed.now c.order_many.new.changed =
    rw (c.if-not-order_few.ensures.same (λ t. false≢true t)) at c.order_many.ensures.order in
    order old at
