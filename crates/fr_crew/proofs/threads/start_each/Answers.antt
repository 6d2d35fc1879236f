use Rattle.std.proofs.Common.{rules, subst, sym, ap, ◌∙◌}
use Rattle.std.specs.List.{AllByRecursion as Each}
use Rattle.fr_round.proofs.StepsKeepTheRule.{each_snoc}
use Rattle.fr_crew.specs.Crews.{IsNew, IsOwnMember, IsOwnThread, shift}
use Rattle.fr_crew.proofs.threads.start_each.Goals as goal

pub loop-member-preserved : goal.loop-member-preserved
loop-member-preserved g c =
    let round = c.args.job.now.round in
    let was = c.loop-member.invariant in
    let here = subst (Each (IsOwnMember round)) c.in-Some.ensures.steps.0 was.rest in
    let promised = c.in-Ok.ensures.ok in record {
      count = search rules;
      room = search rules;
      rest = here.1;
      own = rw c.push_reserved.ensures.items
          (each_snoc (IsOwnThread (shift round c.args.job.now.budget c.args.gate.now)) _ _ was.own (record {
            worker =
                subst (λ p. IsNew round p.worker.value) (sym promised) (subst (IsNew round) (sym c.of.ensures) here.0);
            budget = ap (λ p. p.budget) promised;
            gate = ap (λ p. p.gate.value) promised ∙ c.of-in-loop-member.ensures;
          }));
    }
