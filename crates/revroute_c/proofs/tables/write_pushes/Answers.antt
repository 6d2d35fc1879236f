use Rattle.std.proofs.Common.{arith, find, length, rules, None, ◌≡◌}
use Rattle.revroute_c.specs.Tables.{is_outside}
use Rattle.revroute_c.proofs.InRange.{all_in_range}
use Rattle.revroute_c.proofs.tables.write_pushes.Goals as goal

pub known_pushes-requires-clause-range : goal.known_pushes-requires-clause-range
known_pushes-requires-clause-range c =
    let table = c.args.table.now in
    let count = c.nodes-count.result in
    let one_each : length table ≡ count = omega (arith, c.if-table-count.false) in
    let none : find (is_outside count) table ≡ None = search rules in
    rw (c.deref.ensures.value, c.in-Ok.ensures) (all_in_range count table one_each none)
