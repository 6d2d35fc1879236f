use Rattle.std.proofs.Common.{arith}
use Rattle.fr_ways.proofs.reserved_rows.Rows.push_empty.Goals as goal

pub push-requires : goal.push-requires
push-requires c =
    let inv = c.loop-x.invariant in
    record { nodes = omega (arith, c.requires, c.loop-x-test.true, inv.few, inv.room.nodes); ways = omega arith }
