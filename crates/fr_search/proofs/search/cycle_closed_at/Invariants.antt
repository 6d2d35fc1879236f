use Rattle.std.proofs.Common.{drop, take, ◌≡◌}
use Rattle.fr_search.specs.Search.{nodes_of}
use Rattle.fr_search.proofs.search.cycle_closed_at.Given as goal

abbrev pub invariant-loop-step : goal.invariant-loop-step
invariant-loop-step l = l.walk.items ≡ nodes_of (take l.step-index (drop l.at l.path))
