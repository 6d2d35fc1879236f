use Rattle.std.proofs.Common.{◌≡◌, ◌+◌, ◌≤◌, vec_len, vec_capacity}
use Rattle.std.specs.List.{AllByRecursion as Each}
use Rattle.std.specs.Vec.Iter.{into_iter_items, into_iter_len}
use Rattle.fr_round.specs.Knowledge.{OpenRound}
use Rattle.fr_crew.specs.Crews.{IsNew, IsOwnMember}
use Rattle.fr_crew.proofs.members.make_deques.Given as goal

abbrev pub invariant-loop-worker : goal.invariant-loop-worker
invariant-loop-worker g l = record {
  members : vec_len l.members + into_iter_len l.worker-iterator ≡ vec_len l.fn.workers;
  stealers : vec_len l.stealers ≡ vec_len l.members;
  room : vec_len l.fn.workers ≤ vec_capacity l.members;
  handles : vec_len l.fn.workers ≤ vec_capacity l.stealers;
  rest : (round : OpenRound) → Each (IsNew round) l.fn.workers.items
      → Each (IsNew round) (into_iter_items l.worker-iterator);
  own : (round : OpenRound) → Each (IsNew round) l.fn.workers.items → Each (IsOwnMember round) l.members.items;
}
