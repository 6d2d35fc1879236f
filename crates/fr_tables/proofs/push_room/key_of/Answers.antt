use Rattle.std.proofs.Common.{arith}
use Rattle.fr_tables.proofs.Answering.{key_lost}
use Rattle.fr_tables.proofs.push_room.key_of.Goals as goal

pub overflow_add-result : goal.overflow_add-result
overflow_add-result c =
    let few = c.requires c.in-Some.group c.in-Some.is in
    omega (arith, few, key_lost c.args.last c.in-Some.group c.if-group.false)
