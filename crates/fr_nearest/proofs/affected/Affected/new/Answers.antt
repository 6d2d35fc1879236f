use Rattle.std.proofs.Common.{ap, arith, length}
use Rattle.std.proofs.lemmas.Bool.{false≢true}
use Rattle.fr_nearest.proofs.Marking.{unmarked}
use Rattle.fr_nearest.proofs.affected.Affected.new.Goals as goal

pub invariant_of-result : goal.invariant_of-result
invariant_of-result c =
    unmarked (omega (arith, ap length c.new.ensures.items)) (λ x is. false≢true (rw c.new.ensures.items at is))
    c.new-2.ensures.items
