use Rattle.fr_shared.proofs.StepsKeepTheRule.{seat_splits}
use Rattle.fr_shared.proofs.publisher.Publisher.past.Goals as goal

pub split_seat-requires : goal.split_seat-requires
split_seat-requires g c = rw c.deref.ensures (seat_splits g.T.Item.codec c.self.invariant)
