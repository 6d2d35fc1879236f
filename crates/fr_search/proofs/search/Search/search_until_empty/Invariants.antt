use Rattle.fr_search.specs.Search.{IsSearch, KeepsSeen, left_count}
use Rattle.fr_search.proofs.search.Search.search_until_empty.Given as goal

abbrev pub invariant-walk : goal.invariant-walk
invariant-walk g l = record {
  search : IsSearch (g.R.Rows.shown l.rows) l.self;
  kept : KeepsSeen l.fn.self.marks.items l.self.marks.items;
}

abbrev pub decreases-walk : goal.decreases-walk
decreases-walk g l = left_count l.self
