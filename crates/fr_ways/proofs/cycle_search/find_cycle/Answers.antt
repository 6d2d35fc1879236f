use Rattle.std.proofs.Common.{arith, length, ◌≡◌}
use Rattle.fr_ways.proofs.Searching.{once_round, order_free, sends_on}
use Rattle.fr_search.specs.Heads.{IsFirstCycle, IsInOrder}
use Rattle.fr_ways.specs.Ways.{rows_of}
use Rattle.fr_ways.proofs.cycle_search.find_cycle.Goals as goal

pub find_cycle-requires : goal.find_cycle-requires
find_cycle-requires c = record {
  each = omega (arith, c.len.ensures);
  below = λ x y leads. omega (arith, c.requires.range x y (sends_on c.args.table.now x y leads), c.len.ensures);
}

pub returns-in-Cycle : goal.returns-in-Cycle
returns-in-Cycle c =
    let walk = c.in-Cycle.walk in
    let cycle : IsFirstCycle (rows_of c.args.table.now) walk.items = rw c.in-Cycle.is at c.in_ok-walk.ensures in
    let long : length walk.items ≡ walk.len = omega (arith, walk.ok.0) in
    rw c.pop-again.ensures.rest (rw long at (once_round c.args.table.now walk.items cycle))

pub returns : goal.returns
returns c =
    let order = c.in-Order.field-0.items in
    let found : IsInOrder c.len.result (rows_of c.args.table.now) order = rw c.in-Order.is at c.in_ok-walk.ensures in
    order_free c.args.table.now order (rw c.len.ensures at found)
