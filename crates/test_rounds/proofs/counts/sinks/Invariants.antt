use Rattle.std.specs.Prelude.{ℕ, ◌<◌}
use Rattle.std.specs.List.{All, Contains}
use Rattle.fr_graph.specs.Turn.{IsSink}
use Rattle.test_rounds.proofs.counts.sinks.Given as goal

-- the nodes found are nodes of the network, and all sinks below x are found
abbrev pub invariant-loop-x : goal.invariant-loop-x
invariant-loop-x l = record {
  nodes : All (λ (y : ℕ). y < l.net.nodes) l.sinks.items;
  found : (y : ℕ) → y < l.x → IsSink l.net.links y → Contains l.sinks.items y;
}
