use Rattle.std.proofs.Common.{arith}
use Rattle.fr_core.proofs.check.turn_fault.Goals as goal

pub returns-then-count-had-clause-some : goal.returns-then-count-had-clause-some
returns-then-count-had-clause-some c = (
  record {
    not_destination = c.if-x-dest.false;
    below_cap = omega (arith, c.nodes.ensures.value);
    sink = c.is_sink.ensures.0 c.if-not-is_sink.false;
  },
  c.if-count-had.true,
)

pub returns-else-count-had-clause-none : goal.returns-else-count-had-clause-none
returns-else-count-had-clause-none c = (
  record {
    not_destination = c.if-x-dest.false;
    below_cap = omega (arith, c.nodes.ensures.value);
    sink = c.is_sink.ensures.0 c.if-not-is_sink.false;
  },
  c.if-count-had.false,
)
