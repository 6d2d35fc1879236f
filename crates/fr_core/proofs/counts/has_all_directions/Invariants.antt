use Rattle.std.proofs.Common.{ℕ, ◌<◌}
use Rattle.fr_graph.specs.Counts.{IsKept}
use Rattle.fr_graph.specs.Links.{Points}
use Rattle.fr_core.proofs.counts.has_all_directions.Given as goal

-- each link whose tail has been looked at has a direction
abbrev pub invariant-loop-x : goal.invariant-loop-x
invariant-loop-x l = (y : ℕ) → y < l.x → (w : ℕ) → Points l.net.links y w → IsKept l.counts (y, w)
