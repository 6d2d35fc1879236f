use Rattle.std.proofs.Common.{arith}
use Rattle.test_rounds.proofs.counts.none_yet.Goals as goal

pub none-requires : goal.none-requires
none-requires c = omega (arith, c.network_law.ensures.limits.nodes_few)
