use Rattle.std.proofs.Common.{◌≡◌, ◌+◌, ◌≤◌, vec_len, vec_capacity}
use Rattle.std.specs.List.{AllByRecursion as Each}
use Rattle.std.specs.Vec.Iter.{into_iter_items, into_iter_len}
use Rattle.fr_crew.specs.Crews.{IsOwnMember, IsOwnThread, shift}
use Rattle.fr_crew.proofs.threads.start_each.Given as goal

abbrev pub invariant-loop-member : goal.invariant-loop-member
invariant-loop-member g l = record {
  count : vec_len l.threads + into_iter_len l.member-iterator ≡ vec_len l.fn.members;
  room : vec_len l.fn.members ≤ vec_capacity l.threads;
  rest : Each (IsOwnMember l.job.round) (into_iter_items l.member-iterator);
  own : Each (IsOwnThread (shift l.job.round l.job.budget l.gate)) l.threads.items;
}
