use Rattle.std.proofs.Common.{ℕ, ◌<◌}
use Rattle.fr_core.specs.NodeCounts.{IsLawfulCount}
use Rattle.fr_core.proofs.counts.has_counts_in_range.Given as goal

abbrev pub invariant-loop-x : goal.invariant-loop-x
invariant-loop-x l = (y : ℕ) → y < l.x → IsLawfulCount l.net.nodes l.net.links l.counts y
