use Rattle.std.proofs.Common.{[], length, ℕ, ◌<◌, ◌≡◌, ◌≤◌}
use Rattle.fr_graph.specs.Limits.{most_nodes}
use Rattle.fr_ways.specs.Ways.{ways}
use Rattle.fr_readers.proofs.ways.clear_ways_from.Given as goal

abbrev pub invariant-loop-x : goal.invariant-loop-x
invariant-loop-x l = record {
  long : length l.wanted ≡ most_nodes;
  low : l.from ≤ l.x;
  none : (y : ℕ) → l.from ≤ y → y < l.x → ways l.wanted y ≡ [];
  others : (y : ℕ) → y < l.from → ways l.wanted y ≡ ways l.fn.wanted y;
}
