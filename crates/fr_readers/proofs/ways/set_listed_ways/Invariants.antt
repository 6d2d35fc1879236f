use Rattle.std.proofs.Common.{List, get_or, length, take, ℕ, ◌<◌, ◌≡◌, ◌⊎◌}
use Rattle.fr_graph.specs.Limits.{most_nodes}
use Rattle.fr_route.specs.NodeWays.{AreNodeWays}
use Rattle.fr_ways.specs.Ways.{ways}
use Rattle.fr_readers.proofs.ways.set_listed_ways.Given as goal

abbrev pub invariant-loop-x : goal.invariant-loop-x
invariant-loop-x l = record {
  same : l.router ≡ l.fn.router;
  long : length l.wanted ≡ most_nodes;
  space : length l.space ≡ most_nodes;
  each : (k : ℕ) → k < l.x-index → (list : List ℕ) × AreNodeWays l.fn.router (get_or l.nodes k 0) list
      × (ways l.wanted (get_or l.nodes k 0) ≡ take 5 list);
  others : (y : ℕ) → ((k : ℕ) × (k < l.x-index) × (get_or l.nodes k 0 ≡ y))
      ⊎ (ways l.wanted y ≡ ways l.fn.wanted y);
}
