use Rattle.fr_crew.specs.Candidates.{IsCandidate}
use Rattle.fr_crew.proofs.Candidates.{pushes}
use Rattle.fr_crew.proofs.deques.Deque.push_shared.Goals as goal

pub push_as-requires-clause-pushes : goal.push_as-requires-clause-pushes
push_as-requires-clause-pushes g c = pushes (IsCandidate g.J.Naming.setup) _ tt c.args.x c.requires
