use Rattle.std.proofs.Common.{get_or, length, ℕ, ◌<◌, ◌≡◌}
use Rattle.fr_graph.proofs.turns.set_counts.Given as goal

-- the counts of the nodes so far
abbrev pub invariant-loop-x : goal.invariant-loop-x
invariant-loop-x l = record {
  one_each : length l.counts ≡ length l.fn.counts;
  these : (j : ℕ) → j < l.x-index → get_or l.counts (get_or l.nodes j 0) 0 ≡ l.count;
  others : (z : ℕ) → ((j : ℕ) → j < l.x-index → ¬ (get_or l.nodes j 0 ≡ z))
      → get_or l.counts z 0 ≡ get_or l.fn.counts z 0;
}
