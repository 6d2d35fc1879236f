use Rattle.std.proofs.Common.{drop, find, nat_le, take, ◌≡◌}
use Rattle.fr_graph.specs.Evidence.{ends_of}
use Rattle.fr_graph.specs.Links.{AreBelow}
use Rattle.fr_graph.proofs.checks.first_outside.Given as goal

abbrev pub invariant-loop-tail : goal.invariant-loop-tail
invariant-loop-tail l = record {
  below : AreBelow l.nodes (take l.tail-index l.links);
  rest : find (nat_le l.nodes) (ends_of l.links) ≡ find (nat_le l.nodes) (ends_of (drop l.tail-index l.links));
}
