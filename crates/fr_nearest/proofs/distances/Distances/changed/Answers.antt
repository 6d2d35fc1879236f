use Rattle.std.proofs.Common.{subst}
use Rattle.fr_nearest.specs.Distances.{AreChanged, Measured}
use Rattle.fr_nearest.proofs.NotedNodes.{changed_of}
use Rattle.fr_nearest.proofs.distances.Distances.changed.Goals as goal

pub returns-clause-changed : goal.returns-clause-changed
returns-clause-changed c =
    subst (λ (m : Measured). AreChanged m.before m.table m.changed) c.self.view_is (changed_of c.self.invariant.changes)
