use Rattle.std.proofs.Common.{◌≡◌, ◌+◌}
use Rattle.fr_crew.specs.Crews.{IsSameWorker, calls_of}
use Rattle.fr_crew.specs.Gates.{EachBefore}
use Rattle.fr_crew.proofs.threads.run_worker.Given as goal

abbrev pub invariant-loop-made : goal.invariant-loop-made
invariant-loop-made g l = record {
  same : IsSameWorker l.fn.member.worker l.member.worker;
  calls : calls_of l.member.worker ≡ l.made;
  each_passed : EachBefore (l.made + 1) (g.G.Gate.passed l.gate l.fn.member.worker.number);
}
