use Rattle.std.proofs.Common.{◌≡◌, ◌+◌, ◌≤◌, ◌++◌, ℕ, Some, length, vec_len, vec_capacity}
use Rattle.std.specs.List.{slice_get}
use Rattle.std.specs.Vec.Iter.{into_iter_items, into_iter_len}
use Rattle.fr_core.specs.Targets.{lists_of}
use Rattle.fr_logs.specs.declared.running.Job.{Job}
use Rattle.fr_logs.specs.Jobs.{IsJob}
use Rattle.fr_logs.proofs.running.make_jobs.Given as goal

abbrev pub invariant-loop-worker : goal.invariant-loop-worker
invariant-loop-worker l = record {
  count : vec_len l.jobs + into_iter_len l.worker-iterator ≡ length l.plans;
  room : length l.plans ≤ vec_capacity l.jobs;
  rest : l.yielded ++ into_iter_items l.worker-iterator ≡ l.fn.workers.items;
  passed : length l.yielded ≡ vec_len l.jobs;
  jobs : (k : ℕ) (job : Job) → slice_get l.jobs.items k ≡ Some job → IsJob l.round (lists_of l.plans) k job;
}
