use Rattle.std.proofs.Common.{refl}
use Rattle.fr_route.proofs.reroutes.Reroutes.none.Goals as goal

pub invariant_of-result : goal.invariant_of-result
invariant_of-result c = (c.in_ok-notes.notes.value, refl)
