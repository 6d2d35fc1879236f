use Rattle.std.proofs.Common.{List, rules, ℕ}
use Rattle.fr_ways.specs.Rows.{AreRows, IsLaidOut}
use Rattle.fr_ways.proofs.Rows.{bounds_rows, laid_bounds, laid_out}
use Rattle.fr_ways.proofs.table.WayTable.from_rows.Goals as goal
use Rattle.fr_ways.proofs.table.WayTable.from_rows.Goals.{After-to_vec}

rows : (c : After-to_vec) → AreRows c.args.list.now c.args.starts.now
rows c = bounds_rows c.args.list.now c.args.starts.now (c.are_bounds.ensures.0 c.if-not-are_bounds.false)

laid : (c : After-to_vec) → (table : List (List ℕ)) × IsLaidOut c.args.starts.now c.args.list.now table
laid c = (_, laid_out c.args.list.now c.args.starts.now (rows c))

pub returns-then-not-are_bounds-clause-made : goal.returns-then-not-are_bounds-clause-made
returns-then-not-are_bounds-clause-made c =
    λ table is. search (rules, c.are_bounds.ensures.1 (laid_bounds c.args.starts.now c.args.list.now table is))

pub returns-in_err-to_vec-clause-memory : goal.returns-in_err-to_vec-clause-memory
returns-in_err-to_vec-clause-memory c =
    search (rules, laid (goal.at.returns-in_err-to_vec-clause-memory c).After-to_vec)

pub returns-in_err-to_vec-2-clause-memory : goal.returns-in_err-to_vec-2-clause-memory
returns-in_err-to_vec-2-clause-memory c =
    search (rules, laid (goal.at.returns-in_err-to_vec-2-clause-memory c).After-to_vec)

pub invariant_of-result : goal.invariant_of-result
invariant_of-result c =
    rw (
      c.in_ok-to_vec.ensures.items_if_clones_equal (λ x y same. same),
      c.in_ok-to_vec-2.ensures.items_if_clones_equal (λ x y same. same),
    )
    (rows (goal.at.invariant_of-result c).After-to_vec)

pub returns-clause-made : goal.returns-clause-made
returns-clause-made c =
    rw (
      c.in_ok-to_vec.ensures.items_if_clones_equal (λ x y same. same),
      c.in_ok-to_vec-2.ensures.items_if_clones_equal (λ x y same. same),
    )
    (laid_out c.args.list.now c.args.starts.now (rows (goal.at.returns-clause-made c).After-to_vec))
