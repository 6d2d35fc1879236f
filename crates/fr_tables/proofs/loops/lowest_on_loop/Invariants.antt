use Rattle.std.proofs.Common.{length, vec_capacity, ℕ, ◌<◌, ◌≤◌}
use Rattle.fr_tables.specs.Rounds.{AreDecided}
use Rattle.fr_tables.specs.Tables.{IsOnLoop}
use Rattle.fr_tables.proofs.loops.lowest_on_loop.Given as goal

abbrev pub invariant-loop-x : goal.invariant-loop-x
invariant-loop-x l = record {
  decided : AreDecided l.table l.marks;
  room : length l.table ≤ vec_capacity l.walk;
  none : (y : ℕ) → y < l.x → ¬ IsOnLoop l.table y;
}
