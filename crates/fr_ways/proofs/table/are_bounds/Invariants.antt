use Rattle.std.proofs.Common.{slice_index, ℕ, ◌+◌, ◌<◌, ◌≤◌}
use Rattle.fr_ways.proofs.table.are_bounds.Given as goal

abbrev pub invariant-loop-k : goal.invariant-loop-k
invariant-loop-k l = (i : ℕ) → i + 1 < l.k → slice_index l.starts i ≤ slice_index l.starts (i + 1)
