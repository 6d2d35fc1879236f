use Rattle.std.proofs.Common.{replicate}
use Rattle.fr_round.proofs.MissingNumbers.{AreRightTo}
use Rattle.fr_round.proofs.seen_counts.Seen.new.Given as goal

abbrev pub invariant-loop-x : goal.invariant-loop-x
invariant-loop-x l = AreRightTo l.net.nodes l.net.links (replicate l.net.nodes 0) l.missing.items l.x
