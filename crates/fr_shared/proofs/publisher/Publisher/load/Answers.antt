use Rattle.std.proofs.Common.{ap, arith}
use Rattle.fr_shared.proofs.StepsKeepTheRule.{seat_loads}
use Rattle.fr_shared.proofs.publisher.Publisher.load.Goals as goal

pub load-requires : goal.load-requires
load-requires g c =
    rw c.deref.ensures (seat_loads g.T.Item.codec c.self.invariant
    (omega (arith, c.requires, ap (λ k. k.nodes) c.self.view_is)))
