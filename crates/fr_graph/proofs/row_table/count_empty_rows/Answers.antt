use Rattle.std.proofs.Common.{Bool, arith, eqb, ℕ, ◌∙◌, ◌≡◌}
use Rattle.fr_graph.proofs.Counting.{count-range-le, count-range_more, weigh}
use Rattle.fr_graph.proofs.RowTables.{bit_is, weigh-le}
use Rattle.fr_graph.specs.Tables.{end_at, start_at}
use Rattle.fr_graph.proofs.row_table.count_empty_rows.Goals as goal
use Rattle.fr_graph.proofs.row_table.count_empty_rows.Goals.{After-from-empty}

-- whether a row is empty
abbrev is_none : (c : After-from-empty) → ℕ → Bool
is_none c x = eqb (start_at c.args.places.now x) (end_at c.args.places.now x)

counts : (c : After-from-empty) → c.from-empty.result ≡ weigh (is_none c c.loop-x.x)
counts c = c.from-empty.ensures ∙ bit_is (is_none c c.loop-x.x)

pub overflow_add-empty : goal.overflow_add-empty
overflow_add-empty c =
    let b = (goal.at.overflow_add-empty c).After-from-empty in
    omega (
      arith,
      counts b,
      weigh-le (is_none b c.loop-x.x),
      c.loop-x.invariant,
      count-range-le (is_none b) 0 c.loop-x.x,
      c.loop-x-test.true,
    )

pub loop-x-preserved : goal.loop-x-preserved
loop-x-preserved c =
    let b = (goal.at.loop-x-preserved c).After-from-empty in
    omega (arith, counts b, c.loop-x.invariant, count-range_more (is_none b) c.loop-x.x)
