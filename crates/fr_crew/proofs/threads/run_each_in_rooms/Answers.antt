use Rattle.std.proofs.Common.{[], subst}
use Rattle.std.specs.List.{AllByRecursion as Each}
use Rattle.fr_round.proofs.Gathering.{each_in}
use Rattle.fr_round.proofs.StepsKeepTheRule.{each_snoc}
use Rattle.fr_crew.specs.Crews.{IsDone, IsOwnMember, shift}
use Rattle.fr_crew.proofs.Workers.{worked_done}
use Rattle.fr_crew.proofs.threads.run_each_in_rooms.Goals as goal

pub returns-clause-done : goal.returns-clause-done
returns-clause-done g c =
    let round = c.args.job.now.round in
    let IsOurs = IsOwnMember round in
    let s = shift round c.args.job.now.budget c.args.crew.now.gate.now in
    let last = each_in IsOurs _ _ [] (subst (Each IsOurs) c.in-Some.ensures.items c.requires.own.1) in
    let back = c.join_each-back.ensures.done s c.start_each-threads.ensures.own in
    rw c.push_reserved.ensures.items
    (each_snoc (IsDone g.G.Gate.passed s) _ _ back (worked_done g.G.Gate.passed s _ _ last c.run_worker-last.ensures))
