use Rattle.std.proofs.Common.{List, length, take, ℕ, ◌<◌, ◌≡◌, ◌≤◌}
use Rattle.fr_graph.specs.Limits.{most_nodes}
use Rattle.fr_route.specs.NodeWays.{AreNodeWays}
use Rattle.fr_ways.specs.Ways.{ways}
use Rattle.fr_readers.proofs.ways.set_router_ways.Given as goal

abbrev pub invariant-loop-x : goal.invariant-loop-x
invariant-loop-x l = record {
  same : l.router ≡ l.fn.router;
  long : length l.wanted ≡ most_nodes;
  space : length l.space ≡ most_nodes;
  low : l.x ≤ l.fn.router.nodes;
  each : (y : ℕ) → y < l.x → (list : List ℕ) × AreNodeWays l.fn.router y list × (ways l.wanted y ≡ take 5 list);
}
