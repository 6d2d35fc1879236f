use Rattle.fr_search.specs.Search.{IsRead}
use Rattle.fr_search.proofs.search.next_unfinished.Given as goal

abbrev pub invariant-loop-place : goal.invariant-loop-place
invariant-loop-place g l = IsRead (g.R.Rows.shown l.rows) l.marks (record { node = l.fn.step.node; next = l.place })
