use Rattle.std.proofs.Common.{◌+◌, ◌≤◌, vec_len}
use Rattle.std.specs.List.{AllByRecursion as Each}
use Rattle.std.specs.Vec.Iter.{into_iter_items, into_iter_len}
use Rattle.fr_logs.specs.Logged.{IsOwnRecorder}
use Rattle.test_rounds.specs.declared.logs.Noted.{Noted}
use Rattle.test_rounds.proofs.logs.close.Given as goal

abbrev pub invariant-loop-noted : goal.invariant-loop-noted
invariant-loop-noted l = record {
  few : vec_len l.recorders + into_iter_len l.noted-iterator ≤ l.fn.round.setup.workers;
  rest : Each (λ (noted : Noted). IsOwnRecorder l.fn.round noted.recorder) (into_iter_items l.noted-iterator);
  own : Each (IsOwnRecorder l.fn.round) l.recorders.items;
}
