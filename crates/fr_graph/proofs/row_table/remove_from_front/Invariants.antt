use Rattle.std.proofs.Common.{drop, take, ◌++◌, ◌-◌, ◌≡◌, ◌≤◌}
use Rattle.fr_graph.proofs.row_table.remove_from_front.Given as goal

abbrev pub invariant-loop-place : goal.invariant-loop-place
invariant-loop-place l = record {
  some : 1 ≤ l.place;
  written : l.entries ≡ take (l.place - 1) (drop 1 l.fn.entries) ++ drop (l.place - 1) l.fn.entries;
}
