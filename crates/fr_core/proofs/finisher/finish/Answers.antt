use Rattle.std.proofs.Common.{arith, subst, sum, ◌+◌, ◌-◌, ◌≡◌}
use Rattle.fr_core.proofs.SettledRuns.{lawful_sum_fits, run_to_settled}
use Rattle.fr_core.proofs.Totals.{settled_within}
use Rattle.fr_core.proofs.Unique.{settled_lawful}
use Rattle.fr_core.specs.Finish.{IsFinish}
use Rattle.fr_core.specs.Work.{IsWithinWork}
use Rattle.fr_core.proofs.finisher.finish.Goals as goal

pub total_turns-before-requires : goal.total_turns-before-requires
total_turns-before-requires c =
    let net = c.args.net.now in
    lawful_sum_fits net.nodes c.args.dest net.links c.args.counts.now c.network_law.ensures.limits.nodes_few
    c.requires.lawful

pub total_turns-requires : goal.total_turns-requires
total_turns-requires c =
    let net = c.args.net.now in
    let known = c.network_law.ensures in
    lawful_sum_fits net.nodes c.args.dest net.links c.settle.new.counts known.limits.nodes_few
    (settled_lawful net.nodes c.args.dest net.links known.is_net c.requires.node c.settle.new.counts c.settle.ensures)

pub overflow_sub-result : goal.overflow_sub-result
overflow_sub-result c =
    let net = c.args.net.now in
    let run = run_to_settled net.nodes c.args.dest net.links c.args.counts.now c.settle.new.counts
    c.network_law.ensures.is_net c.requires.node c.requires.lawful c.settle.ensures in
    omega (arith, run.0, c.total_turns-before.ensures, c.total_turns.ensures)

pub returns-clause-run : goal.returns-clause-run
returns-clause-run c =
    let net = c.args.net.now in
    let run = run_to_settled net.nodes c.args.dest net.links c.args.counts.now c.settle.new.counts
    c.network_law.ensures.is_net c.requires.node c.requires.lawful c.settle.ensures in
    let made : sum c.settle.new.counts - sum c.args.counts.now ≡ c.total_turns.result - c.total_turns-before.result =
    omega (arith, c.total_turns-before.ensures, c.total_turns.ensures) in
    subst (IsFinish net.nodes c.args.dest net.links c.args.counts.now c.settle.new.counts) made run.1

pub returns-clause-work : goal.returns-clause-work
returns-clause-work c =
    let net = c.args.net.now in
    let known = c.network_law.ensures in
    let run = run_to_settled net.nodes c.args.dest net.links c.args.counts.now c.settle.new.counts
    known.is_net c.requires.node c.requires.lawful c.settle.ensures in
    let all : sum c.settle.new.counts ≡ sum c.args.counts.now + (c.total_turns.result - c.total_turns-before.result) =
    omega (arith, run.0, c.total_turns-before.ensures, c.total_turns.ensures) in
    subst (IsWithinWork net.nodes c.args.dest net.links) all
    (settled_within net.nodes c.args.dest net.links known.is_net c.requires.node c.settle.new.counts c.settle.ensures)
