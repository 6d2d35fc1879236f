use Rattle.std.proofs.Common.{ℕ, ◌<◌, ◌≢◌}
use Rattle.fr_search.specs.Search.{IsAtRest, KeepsSeen, mark_of}
use Rattle.fr_search.specs.declared.search.Mark.TheVariants.{Fresh}
use Rattle.fr_search.proofs.search.Search.search_from_each_node.Given as goal

abbrev pub invariant-loop-root : goal.invariant-loop-root
invariant-loop-root g l = record {
  rest : IsAtRest (g.R.Rows.shown l.rows) l.self;
  kept : KeepsSeen l.fn.self.marks.items l.self.marks.items;
  met : (x : ℕ) → x < l.root → mark_of l.self.marks.items x ≢ Fresh;
}
