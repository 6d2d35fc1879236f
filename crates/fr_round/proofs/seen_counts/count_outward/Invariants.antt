use Rattle.std.proofs.Common.{replicate}
use Rattle.fr_round.proofs.MissingNumbers.{IsCountedTo}
use Rattle.fr_round.proofs.seen_counts.count_outward.Given as goal

abbrev pub invariant-loop-first : goal.invariant-loop-first
invariant-loop-first l = IsCountedTo l.first-items (replicate l.net.nodes 0) 0 l.outward l.first-index
