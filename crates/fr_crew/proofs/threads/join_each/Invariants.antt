use Rattle.std.proofs.Common.{◌≡◌, ◌+◌, ◌≤◌, vec_len, vec_capacity}
use Rattle.std.specs.List.{AllByRecursion as Each}
use Rattle.std.specs.Vec.Iter.{into_iter_items, into_iter_len}
use Rattle.fr_crew.specs.Crews.{IsDone, IsOwnThread, Shift}
use Rattle.fr_crew.proofs.threads.join_each.Given as goal

abbrev pub invariant-loop-thread : goal.invariant-loop-thread
invariant-loop-thread g l = record {
  count : vec_len l.workers + into_iter_len l.thread-iterator ≡ vec_len l.fn.threads;
  room : vec_len l.fn.threads ≤ vec_capacity l.workers;
  same_room : vec_capacity l.workers ≡ vec_capacity l.fn.workers;
  done : (s : Shift g.row.G.Denot) → Each (IsOwnThread s) l.fn.threads.items
      → Each (IsDone g.G.Gate.passed s) l.workers.items;
  rest : (s : Shift g.row.G.Denot) → Each (IsOwnThread s) l.fn.threads.items
      → Each (IsOwnThread s) (into_iter_items l.thread-iterator);
}
