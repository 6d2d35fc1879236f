use Rattle.std.proofs.Common.{take, All}
use Rattle.fr_graph.specs.Counts.{IsKept}
use Rattle.test_networks.proofs.networks.are_kept.Given as goal

abbrev pub invariant-loop-tail : goal.invariant-loop-tail
invariant-loop-tail l = All (IsKept l.counts) (take l.tail-index l.links)
