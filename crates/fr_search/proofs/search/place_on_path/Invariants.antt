use Rattle.std.proofs.Common.{length, ℕ, ◌-◌, ◌<◌, ◌≡◌, ◌≤◌}
use Rattle.fr_search.specs.Search.{node_at}
use Rattle.fr_search.proofs.search.place_on_path.Given as goal

abbrev pub invariant-loop-at : goal.invariant-loop-at
invariant-loop-at l = (k : ℕ) × (l.at ≤ k) × (k < length l.path) × (node_at l.path k ≡ l.node)

abbrev pub decreases-loop-at : goal.decreases-loop-at
decreases-loop-at l = length l.path - l.at
