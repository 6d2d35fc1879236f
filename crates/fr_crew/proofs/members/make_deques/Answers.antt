use Rattle.std.proofs.Common.{rules, subst}
use Rattle.std.specs.List.{AllByRecursion as Each}
use Rattle.fr_round.proofs.StepsKeepTheRule.{each_snoc}
use Rattle.fr_crew.specs.Crews.{IsNew, IsOwnMember}
use Rattle.fr_crew.proofs.members.make_deques.Goals as goal

pub loop-worker-preserved : goal.loop-worker-preserved
loop-worker-preserved g c =
    let was = c.loop-worker.invariant in
    let next = c.in-Some.ensures.steps.0 in record {
      members = search rules;
      stealers = search rules;
      room = search rules;
      handles = search rules;
      rest = λ round each. (subst (Each (IsNew round)) next (was.rest round each)).1;
      own = λ round each.
          let here = subst (Each (IsNew round)) next (was.rest round each) in
          rw c.push_reserved-in-loop-worker.ensures.items
          (each_snoc (IsOwnMember {J = g.row.J.Denot} round) _ _ (was.own round each) here.0);
    }
