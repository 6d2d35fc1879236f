use Rattle.fr_shared.proofs.StepsKeepTheRule.{seat_splits}
use Rattle.fr_shared.proofs.reader.Reader.try_clone.Goals as goal

pub split_seat-seat-requires : goal.split_seat-seat-requires
split_seat-seat-requires g c = rw c.deref.ensures (seat_splits g.T.Item.codec c.self.invariant)
