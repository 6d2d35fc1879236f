use Rattle.std.proofs.Common.{rules, subst}
use Rattle.std.specs.List.{AllByRecursion as Each}
use Rattle.fr_round.proofs.StepsKeepTheRule.{each_snoc}
use Rattle.fr_crew.specs.Crews.{IsDone, IsOwnThread}
use Rattle.fr_crew.proofs.Workers.{thread_done}
use Rattle.fr_crew.proofs.threads.join_each.Goals as goal

pub loop-thread-preserved : goal.loop-thread-preserved
loop-thread-preserved g c =
    let was = c.loop-thread.invariant in
    let next = c.in-Some.ensures.steps.0 in record {
      count = search rules;
      room = search rules;
      same_room = search rules;
      done = λ s each.
          let here = subst (Each (IsOwnThread s)) next (was.rest s each) in
          rw c.push_reserved.ensures.items (each_snoc (IsDone g.G.Gate.passed s) _ _ (was.done s each)
          (thread_done g.G.Gate.passed s _ _ here.0 c.join.ensures));
      rest = λ s each. (subst (Each (IsOwnThread s)) next (was.rest s each)).1;
    }
