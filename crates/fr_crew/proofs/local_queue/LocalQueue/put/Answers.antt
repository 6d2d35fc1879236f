use Rattle.fr_crew.specs.Candidates.{IsCandidate}
use Rattle.fr_crew.proofs.Candidates.{one_more}
use Rattle.fr_crew.proofs.local_queue.LocalQueue.put.Goals as goal

pub invariant_of-self-clause-candidates : goal.invariant_of-self-clause-candidates
invariant_of-self-clause-candidates g c =
    one_more (IsCandidate g.J.Naming.setup) _ _ _ c.args.x c.push_back.ensures.items c.args.self.now.candidates
    c.requires

pub invariant_of-self-else-is_ok-clause-candidates : goal.invariant_of-self-else-is_ok-clause-candidates
invariant_of-self-else-is_ok-clause-candidates g c =
    one_more (IsCandidate g.J.Naming.setup) _ _ _ c.args.x c.push_back.ensures.items c.args.self.now.candidates
    c.requires
