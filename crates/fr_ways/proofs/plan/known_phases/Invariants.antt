use Rattle.std.proofs.Common.{length, ◌≤◌}
use Rattle.fr_ways.specs.Plans.{IsClear, IsPlan}
use Rattle.fr_ways.proofs.plan.known_phases.Given as goal

abbrev pub invariant-loop-x : goal.invariant-loop-x
invariant-loop-x l = record {
  low : l.x ≤ length l.new;
  plan : IsPlan l.old l.new l.x l.plan;
  spare : IsClear (length l.new) l.spare;
}
