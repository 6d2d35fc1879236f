use Rattle.std.proofs.Common.{ap, arith, length, ◌∙◌}
use Rattle.std.specs.List.{concat}
use Rattle.std.proofs.lemmas.List.{get_or_default}
use Rattle.fr_ways.proofs.Rows.{way_listed}
use Rattle.fr_ways.proofs.range.first_outside.Goals as goal

pub returns : goal.returns
returns c = λ x y sends.
    let (k, low, is) = way_listed c.args.table.now x y sends in
    let each = c.loop-y.invariant k (omega (arith, low, c.loop-y-test.false, ap length c.list-y-items.ensures)) in
    omega (arith, each, get_or_default (concat c.args.table.now) k 0 y low ∙ is)
