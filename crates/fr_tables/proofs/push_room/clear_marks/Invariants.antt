use Rattle.std.proofs.Common.{Contains, drop, false, get_or, length, true, ℕ, ◌≡◌}
use Rattle.fr_tables.proofs.push_room.clear_marks.Given as goal

abbrev pub invariant-loop-x : goal.invariant-loop-x
invariant-loop-x l = record {
  one_each : length l.differ ≡ length l.fn.differ;
  left : (x : ℕ) → get_or l.differ x false ≡ true → Contains (drop l.x-index l.changed) x;
}
