use Rattle.std.proofs.Common.{slice_index, length, ℕ, ◌<◌}
use Rattle.std.specs.List.{concat}
use Rattle.fr_ways.proofs.range.first_outside.Given as goal

abbrev pub invariant-loop-y : goal.invariant-loop-y
invariant-loop-y l = (k : ℕ) → k < l.y-index → slice_index (concat l.table) k < length l.table
