use Rattle.std.proofs.Common.{drop, get_or, take, ◌++◌, ◌∷◌, ◌≡◌}
use Rattle.fr_graph.proofs.row_table.insert_at_front.Given as goal

abbrev pub invariant-loop-here : goal.invariant-loop-here
invariant-loop-here l = record {
  written : l.entries ≡ take l.here-index (l.fn.entry ∷ l.fn.entries) ++ drop l.here-index l.fn.entries;
  carried : l.carried ≡ get_or (l.fn.entry ∷ l.fn.entries) l.here-index l.fn.entry;
}
