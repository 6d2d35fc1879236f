use Rattle.std.proofs.Common.{get_or, length, ℕ, ◌*◌, ◌+◌, ◌<◌, ◌≡◌, ◌≢◌, ◌⊎◌}
use Rattle.fr_graph.proofs.heights.put_above_base.Given as goal

abbrev pub invariant-loop-x : goal.invariant-loop-x
invariant-loop-x l = record {
  one_each : length l.of ≡ length l.fn.of;
  height : l.height ≡ l.base + l.x-index * l.step;
  lifted :
      (x : ℕ) → ((i : ℕ) × (i < l.x-index) × (get_or l.nodes i 0 ≡ x)
      × (get_or l.of x 0 ≡ l.base + (get_or l.counts x 0 * length l.nodes + i + 1) * l.step))
      ⊎ (((i : ℕ) → i < l.x-index → get_or l.nodes i 0 ≢ x) × (get_or l.of x 0 ≡ get_or l.fn.of x 0));
}
