use Rattle.std.proofs.Common.{◌≡◌, ◌+◌, ◌≤◌, ◌++◌, map, vec_len, vec_capacity}
use Rattle.std.specs.Vec.Iter.{into_iter_items, into_iter_len}
use Rattle.fr_core.specs.Targets.{lists_of}
use Rattle.fr_logs.specs.Logged.{workers_of}
use Rattle.fr_logs.specs.Recording.{log_of}
use Rattle.fr_logs.proofs.closing.split_recorders.Given as goal

abbrev pub invariant-loop-recorder : goal.invariant-loop-recorder
invariant-loop-recorder l = record {
  room_of_workers : vec_len l.parts.workers + into_iter_len l.recorder-iterator ≤ vec_capacity l.parts.workers;
  room_of_logs : vec_len l.parts.logs + into_iter_len l.recorder-iterator ≤ vec_capacity l.parts.logs;
  workers : l.parts.workers.items ++ workers_of
      (into_iter_items l.recorder-iterator) ≡ workers_of l.fn.recorders.items;
  logs : lists_of l.parts.logs.items ++ map log_of
      (into_iter_items l.recorder-iterator) ≡ map log_of l.fn.recorders.items;
}
