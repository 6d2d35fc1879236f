use Rattle.std.proofs.Common.{slice_index, ◌*◌, ◌+◌}
use Rattle.fr_graph.specs.KeptRows.{net_in}
use Rattle.fr_graph.specs.PathSearch.{IsSide, never_count, unread_count}
use Rattle.fr_graph.specs.declared.first.First.TheVariants.{Inward, Outward}
use Rattle.fr_graph.proofs.path_search.path_between.Given as goal

abbrev pub invariant-loop-behind : goal.invariant-loop-behind
invariant-loop-behind l = record {
  ahead : IsSide (net_in l.rows) l.heights.heights Outward l.from (slice_index l.heights.heights l.to) l.met l.ahead;
  behind : IsSide (net_in l.rows) l.heights.heights Inward l.to (slice_index l.heights.heights l.from) l.met l.behind;
}

abbrev pub decreases-loop-behind : goal.decreases-loop-behind
decreases-loop-behind l = 2 * never_count l.met + unread_count l.ahead + unread_count l.behind
