use Rattle.std.proofs.Common.{ℕ, ◌≡◌, ◌≤◌, vec_capacity}
use Rattle.std.specs.List.{AllByRecursion as Each}
use Rattle.fr_crew.specs.Settlements.{AreNumbered}
use Rattle.fr_crew.proofs.settlement.no_worker_turns.Given as goal

abbrev pub invariant-loop-number : goal.invariant-loop-number
invariant-loop-number l = record {
  numbered : AreNumbered l.number l.turned.items;
  none : Each (λ (p : ℕ × ℕ). p.1 ≡ 0) l.turned.items;
  room : l.fn.workers ≤ vec_capacity l.turned;
}
