use Rattle.std.proofs.Common.{drop, ◌≡◌}
use Rattle.fr_shared.proofs.HopWalks.{IsUnderWay}
use Rattle.fr_shared.proofs.hops.reading.Reader+Hop.walk.Given as goal

abbrev pub invariant-loop-count : goal.invariant-loop-count
invariant-loop-count l = record {
  way : IsUnderWay l.fn.self l.self l.x l.nodes l.count l.hop;
  rest : drop l.count l.nodes ≡ drop l.count l.fn.nodes;
}
