use Rattle.std.proofs.Common.{arith, subst, sum, ◌+◌, ◌-◌, ◌<◌, ◌^◌, ◌≡◌}
use Rattle.fr_core.proofs.SettledRuns.{lawful_sum_fits, run_to_settled}
use Rattle.fr_core.proofs.Totals.{settled_within}
use Rattle.fr_core.proofs.Unique.{settled_lawful}
use Rattle.fr_core.specs.Finish.{IsFinish}
use Rattle.fr_core.specs.Work.{IsWithinWork}
use Rattle.fr_core.proofs.finisher.finish_turns.Goals as goal
use Rattle.fr_core.proofs.finisher.finish_turns.Goals.{After-total-after}

-- the totals are the sums
exact_before : (c : After-total-after) → c.total-before.result ≡ sum c.args.turns.now
exact_before c =
    let net = c.args.net.now in
    let small : sum c.args.turns.now < 2 ^ 64 =
    lawful_sum_fits net.nodes c.args.dest net.links c.args.turns.now c.network_law.ensures.limits.nodes_few
    c.requires.lawful in
    omega (arith, small, c.total-before.ensures)

exact_after : (c : After-total-after) → c.total-after.result ≡ sum c.settle.new.turns
exact_after c =
    let net = c.args.net.now in
    let known = c.network_law.ensures in
    let small : sum c.settle.new.turns < 2 ^ 64 =
    lawful_sum_fits net.nodes c.args.dest net.links c.settle.new.turns known.limits.nodes_few
    (settled_lawful net.nodes c.args.dest net.links known.is_net c.requires.node c.settle.new.turns c.settle.ensures) in
    omega (arith, small, c.total-after.ensures)

pub overflow_sub-result : goal.overflow_sub-result
overflow_sub-result c =
    let net = c.args.net.now in
    let run = run_to_settled net.nodes c.args.dest net.links c.args.turns.now c.settle.new.turns
    c.network_law.ensures.is_net c.requires.node c.requires.lawful c.settle.ensures in
    omega (
      arith,
      run.0,
      exact_before (goal.at.overflow_sub-result c).After-total-after,
      exact_after (goal.at.overflow_sub-result c).After-total-after,
    )

pub returns-clause-run : goal.returns-clause-run
returns-clause-run c =
    let net = c.args.net.now in
    let run = run_to_settled net.nodes c.args.dest net.links c.args.turns.now c.settle.new.turns
    c.network_law.ensures.is_net c.requires.node c.requires.lawful c.settle.ensures in
    let before = exact_before (goal.at.returns-clause-run c).After-total-after in
    let after = exact_after (goal.at.returns-clause-run c).After-total-after in
    let made : sum c.settle.new.turns - sum c.args.turns.now ≡ c.total-after.result - c.total-before.result =
    omega (arith, before, after) in
    subst (IsFinish net.nodes c.args.dest net.links c.args.turns.now c.settle.new.turns) made run.1

pub returns-clause-work : goal.returns-clause-work
returns-clause-work c =
    let net = c.args.net.now in
    let known = c.network_law.ensures in
    let run = run_to_settled net.nodes c.args.dest net.links c.args.turns.now c.settle.new.turns
    known.is_net c.requires.node c.requires.lawful c.settle.ensures in
    let before = exact_before (goal.at.returns-clause-work c).After-total-after in
    let after = exact_after (goal.at.returns-clause-work c).After-total-after in
    let all : sum c.settle.new.turns ≡ sum c.args.turns.now + (c.total-after.result - c.total-before.result) =
    omega (arith, run.0, before, after) in
    subst (IsWithinWork net.nodes c.args.dest net.links) all
    (settled_within net.nodes c.args.dest net.links known.is_net c.requires.node c.settle.new.turns c.settle.ensures)
