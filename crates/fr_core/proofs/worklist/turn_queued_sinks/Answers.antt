use Rattle.std.proofs.Common.{arith, sym, ◌∙◌, ◌≡◌}
use Rattle.fr_core.proofs.worklist.turn_queued_sinks.Goals as goal
use Rattle.fr_core.proofs.worklist.turn_queued_sinks.Goals.{then-cost-allowance-via-then-cost-allowance, then-cost-allowance-via-else-cost-allowance+then-not-turn_if_it_can}

pub loop-at-init : goal.loop-at-init
loop-at-init g c = record { later = record { lawful = c.requires.lawful; forth = λ x. omega arith }; work = c.requires.work }

pub loop-at-preserved : goal.loop-at-preserved
loop-at-preserved g c =
    let l = c.loop-at in
    let looked = c.turn_if_it_can.ensures in record {
      later = record { lawful = looked.later.lawful; forth = λ x. omega (arith, l.invariant.later.forth x, looked.later.forth x) };
      work = looked.carries c.if-not-turn_if_it_can.false l.at (omega (arith, c.len.ensures.value)) (sym c.node-x.ensures) l.invariant.work;
    }

-- where it stops before a node, it has changed nothing for it
pub returns-then-cost-allowance : goal.returns-then-cost-allowance
returns-then-cost-allowance g c =
    let turns : c.then-cost-allowance.turns ≡ c.loop-at.turns = elim c.then-cost-allowance.branch [
      | then-cost-allowance-via-then-cost-allowance w ↦ w.turns-is
      | then-cost-allowance-via-else-cost-allowance+then-not-turn_if_it_can w ↦ w.turns-is ∙ (w.turn_if_it_can.ensures.unchanged w.if-not-turn_if_it_can.true).0
    ] in
    let work : c.then-cost-allowance.work ≡ c.loop-at.work = elim c.then-cost-allowance.branch [
      | then-cost-allowance-via-then-cost-allowance w ↦ w.work-is
      | then-cost-allowance-via-else-cost-allowance+then-not-turn_if_it_can w ↦ w.work-is ∙ (w.turn_if_it_can.ensures.unchanged w.if-not-turn_if_it_can.true).1
    ] in
    record { later = rw turns c.loop-at.invariant.later; work = rw (turns, work) c.loop-at.invariant.work }
