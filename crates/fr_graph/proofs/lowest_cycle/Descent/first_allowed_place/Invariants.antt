use Rattle.std.proofs.Common.{slice_index_or, ℕ, ◌<◌, ◌≤◌}
use Rattle.fr_graph.specs.Descents.{LeadsOnlyTo}
use Rattle.fr_graph.specs.Descents.{IsSkipped}
use Rattle.fr_graph.specs.declared.first.First.{First}
use Rattle.fr_graph.proofs.lowest_cycle.Descent.first_allowed_place.Given as goal

abbrev pub invariant-loop-place : goal.invariant-loop-place
invariant-loop-place l = (k : ℕ) (d : ℕ × First) → l.from ≤ k → k < l.place
    → LeadsOnlyTo (IsSkipped l.heights.heights l.self) (slice_index_or l.row k d)
