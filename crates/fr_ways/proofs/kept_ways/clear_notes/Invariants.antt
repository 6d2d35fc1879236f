use Rattle.std.proofs.Common.{Contains, drop, false, get_or, length, true, ℕ, ◌≡◌}
use Rattle.fr_ways.proofs.kept_ways.clear_notes.Given as goal

abbrev pub invariant-loop-y : goal.invariant-loop-y
invariant-loop-y l = record {
  one_each : length l.noted ≡ length l.fn.noted;
  left : (x : ℕ) → get_or l.noted x false ≡ true → Contains (drop l.y-index l.ways) x;
}
