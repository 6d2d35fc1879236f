use Rattle.std.proofs.Common.{arith}
use Rattle.fr_crew.specs.Candidates.{IsCandidate}
use Rattle.fr_crew.proofs.Candidates.{takes}
use Rattle.fr_crew.proofs.deques.steal.Goals as goal

pub steal_as-requires-clause-takes : goal.steal_as-requires-clause-takes
steal_as-requires-clause-takes g c = takes (IsCandidate g.J.Naming.setup) _ tt 1

pub returns-in-Success : goal.returns-in-Success
returns-in-Success g c = c.in-Success.ensures.rule 0 c.in-Success.x (omega arith)
