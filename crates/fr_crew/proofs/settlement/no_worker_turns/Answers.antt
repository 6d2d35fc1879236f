use Rattle.std.proofs.Common.{ℕ, refl, rules, ◌≡◌}
use Rattle.fr_round.proofs.StepsKeepTheRule.{each_snoc}
use Rattle.fr_crew.proofs.Turners.{numbered_next}
use Rattle.fr_crew.proofs.settlement.no_worker_turns.Goals as goal

pub loop-number-preserved : goal.loop-number-preserved
loop-number-preserved c =
    let was = c.loop-number.invariant in
    let number = c.loop-number.number in
    let turned = c.loop-number.turned.items in
    record {
      numbered = rw c.push_reserved.ensures.items (numbered_next number 0 turned was.numbered);
      none = rw c.push_reserved.ensures.items (each_snoc (λ (p : ℕ × ℕ). p.1 ≡ 0) turned (number, 0) was.none refl);
      room = search rules;
    }
