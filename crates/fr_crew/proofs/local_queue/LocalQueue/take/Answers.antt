use Rattle.std.proofs.Common.{Some}
use Rattle.fr_crew.specs.Candidates.{IsCandidate}
use Rattle.fr_crew.proofs.Candidates.{one_less}
use Rattle.fr_crew.proofs.local_queue.LocalQueue.take.Goals as goal

pub invariant_of-self : goal.invariant_of-self
invariant_of-self g c = record {
  candidates =
      (one_less (IsCandidate g.J.Naming.setup) c.pop_front.result _ _ c.pop_front.ensures.items
      c.args.self.now.candidates).0;
  one_each = c.args.self.now.one_each;
}

pub invariant_of-self-2-clause-candidates : goal.invariant_of-self-2-clause-candidates
invariant_of-self-2-clause-candidates g c =
    (one_less (IsCandidate g.J.Naming.setup) (Some c.in_ok-x.x) _ _ c.in_ok-x.ensures.items
    c.args.self.now.candidates).0

pub returns : goal.returns
returns g c =
    (one_less (IsCandidate g.J.Naming.setup) (Some c.in_ok-x.x) _ _ c.in_ok-x.ensures.items
    c.args.self.now.candidates).1
