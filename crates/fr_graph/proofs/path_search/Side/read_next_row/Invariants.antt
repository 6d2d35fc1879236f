use Rattle.std.proofs.Common.{ℕ, ◌≡◌}
use Rattle.fr_graph.specs.KeptRows.{net_in}
use Rattle.fr_graph.specs.PathSearch.{HasMetMore, HasPassed, IsPast, IsSide, start_of}
use Rattle.fr_graph.proofs.path_search.Side.read_next_row.Given as goal

abbrev pub invariant-loop-neighbour : goal.invariant-loop-neighbour
invariant-loop-neighbour l = record {
  side : IsSide (net_in l.rows) l.heights.heights l.fn.self.first (start_of l.fn.self) l.fn.self.limit l.met l.self;
  more : HasMetMore l.fn.self l.self l.fn.met l.met;
  same_read : l.self.read ≡ l.fn.self.read;
  nearer : (height : ℕ) → IsPast l.fn.self.first l.self.edge height → IsPast l.fn.self.first l.edge height;
  passed : HasPassed l.heights.heights l.fn.self.first (record l.self { edge = l.edge }) l.met l.row l.neighbour-index;
}
