use Rattle.std.proofs.Common.{arith, ap}
use Rattle.fr_core.proofs.SettledRuns.{lawful_sum_fits}
use Rattle.fr_graph.specs.Network.{Network}
use Rattle.fr_crew.proofs.Turners.{within_budget}
use Rattle.fr_crew.proofs.settlement.settle_by_crew.Goals as goal

pub sum_of_turns-by_workers-requires : goal.sum_of_turns-by_workers-requires
sum_of_turns-by_workers-requires g c =
    let few = c.network_law.ensures.limits.nodes_few in
    let nodes = ap (λ (net : Network). net.nodes) c.in_ok-net.ensures.net in
    let turned = c.in_ok-net.ensures.turned in
    let fits = lawful_sum_fits _ _ _ _ (omega (arith, few, nodes)) turned.run.lawful in
    rw c.deref.ensures.value (omega (arith, turned.total, fits))

pub finish_and_turn_links-settled-requires-clause-turned : goal.finish_and_turn_links-settled-requires-clause-turned
finish_and_turn_links-settled-requires-clause-turned g c =
    let total = c.in_ok-net.ensures.turned.total in
    cc (
      total,
      c.sum_of_turns-by_workers.ensures,
      c.deref.ensures.value,
      c.deref-2.ensures.value,
      c.copy_from.ensures,
    )

pub returns-clause-budget : goal.returns-clause-budget
returns-clause-budget g c =
    let most = within_budget _ _ _ _ _ _ _ c.in_ok-net.ensures.turned in
    rw (c.finish_and_turn_links-settled.ensures.by_workers, c.sum_of_turns-by_workers.ensures, c.deref.ensures.value)
    most
