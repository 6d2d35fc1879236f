use Rattle.std.proofs.Common.{◌≡◌}
use Rattle.fr_shared.proofs.hops.tests.read_often.Given as goal

abbrev pub invariant-loop-read : goal.invariant-loop-read
invariant-loop-read l = l.reader.nodes ≡ l.fn.reader.nodes
