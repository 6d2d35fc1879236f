use Rattle.std.proofs.Common.{◌+◌, ◌≤◌, vec_len}
use Rattle.std.specs.List.{AllByRecursion as Each}
use Rattle.std.specs.Vec.Iter.{into_iter_items, into_iter_len}
use Rattle.fr_round.specs.Knowledge.{IsOwn}
use Rattle.fr_round.specs.Opening.{KnowsNothing}
use Rattle.fr_logs.specs.Logged.{IsOwnRecorder}
use Rattle.test_rounds.specs.declared.logs.Job.{Job}
use Rattle.test_rounds.proofs.logs.make_jobs.Given as goal

abbrev pub invariant-loop-worker : goal.invariant-loop-worker
invariant-loop-worker l = record {
  few : vec_len l.jobs + into_iter_len l.worker-iterator ≤ vec_len l.fn.workers;
  own : Each (IsOwn l.round) (into_iter_items l.worker-iterator);
  fresh : Each (KnowsNothing l.round.setup) (into_iter_items l.worker-iterator);
  jobs : Each (λ (job : Job). IsOwnRecorder l.round job.noted.recorder) l.jobs.items;
}
