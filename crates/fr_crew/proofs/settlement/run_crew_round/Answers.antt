use Rattle.std.proofs.Common.{arith, length, rules, ◌<◌, ◌∙◌, ◌≡◌}
use Rattle.std.proofs.lemmas.Result.{err_from_is_err_and}
use Rattle.fr_crew.proofs.Turners.{closed_turned}
use Rattle.fr_crew.proofs.Workers.{all_came_back, as_many_as_asked, new_workers_new, some_worker}
use Rattle.fr_crew.proofs.settlement.run_crew_round.Given.{Over}
use Rattle.fr_crew.proofs.settlement.run_crew_round.Goals as goal
use Rattle.fr_crew.proofs.settlement.run_crew_round.Goals.{In_ok-round}

pub run_crew-requires-clause-own : goal.run_crew-requires-clause-own
run_crew-requires-clause-own g c κs within = rw c.in-Ok.ensures.workers (new_workers_new c.in-Ok.round c.workers.result)

pub run_crew-requires-clause-some : goal.run_crew-requires-clause-some
run_crew-requires-clause-some g c κs within =
    let some : 0 < length c.in-Ok.workers.items =
    some_worker c.in-Ok.round _ _ c.in-Ok.ensures.openable.some c.in-Ok.ensures.workers in
    search rules

-- as many workers come back as there were
all_back : (g : Over) (c : In_ok-round g) → length c.in_ok-round.workers.items ≡ c.in_ok-round.round.setup.workers
all_back g c =
    let same : length c.in_ok-round.workers.items ≡ length c.in-Ok.workers.items = search rules in
    all_came_back c.in-Ok.round c.in_ok-round.round _ _ _ _ c.in-Ok.workers.items c.in_ok-round.workers.items
    c.in-Ok.ensures.setup c.in-Ok.ensures.workers c.in_ok-round.ensures.back.round_is same

pub close-requires-clause-few : goal.close-requires-clause-few
close-requires-clause-few g c = omega (arith, all_back g (goal.at.close-requires-clause-few g c).In_ok-round)

pub returns-clause-turned : goal.returns-clause-turned
returns-clause-turned g c =
    let all = all_back g (goal.at.returns-clause-turned g c).In_ok-round in
    let net = c.args.net in
    let crew = c.args.crew.now in
    closed_turned g.G.Gate.passed c.in-Ok.round c.in_ok-round.round
    (record { nodes = net.nodes; dest = c.args.dest; links = net.links; workers = c.workers.result })
    crew.plan.now crew.gate.now c.in_ok-round.workers.items c.close.result.counts.items c.close.result.turned.items
    c.in-Ok.ensures.setup c.workers.ensures c.in_ok-round.ensures.back.round_is c.close.ensures.history
    c.in_ok-round.ensures.back.done all

pub returns-in_err-round-clause-no_start : goal.returns-in_err-round-clause-no_start
returns-in_err-round-clause-no_start g c = λ one.
    let workers = c.in-Ok.workers in
    let asked = as_many_as_asked c.in-Ok.round c.workers.result workers.items c.in-Ok.ensures.workers in
    let fault = err_from_is_err_and c.from_residual.result c.from_residual.ensures.1 in
    rw (fault.1, fault.2) (c.in_err-round.ensures.no_start (workers.ok.0 ∙ (asked ∙ (c.workers.ensures ∙ one))))
