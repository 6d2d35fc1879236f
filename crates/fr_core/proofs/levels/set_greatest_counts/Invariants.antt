use Rattle.std.proofs.Common.{slice_index, ℕ, ◌<◌}
use Rattle.fr_core.specs.NodeCounts.{IsMostCount}
use Rattle.fr_core.proofs.levels.set_greatest_counts.Given as goal

abbrev pub invariant-loop-x : goal.invariant-loop-x
invariant-loop-x l = (y : ℕ) → y < l.x → IsMostCount l.net.nodes l.net.links y (slice_index l.counts y)
