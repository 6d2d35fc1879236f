use Rattle.std.proofs.Common.{get_or, length, ℕ, ◌-◌, ◌<◌, ◌≡◌}
use Rattle.fr_tables.proofs.loops.index_of.Given as goal

abbrev pub invariant-loop-index : goal.invariant-loop-index
invariant-loop-index l = record {
  low : l.index < length l.walk;
  out : (k : ℕ) → k < l.index → ¬ (get_or l.walk k 0 ≡ l.node);
}

abbrev pub decreases-loop-index : goal.decreases-loop-index
decreases-loop-index l = length l.walk - l.index
