use Rattle.std.proofs.Common.{length, slice_index, ◌-◌, ◌≤◌}
use Rattle.fr_core.specs.LevelSearch.{IsLevelSearch}
use Rattle.fr_core.proofs.levels.complete_level.Given as goal

abbrev pub invariant-loop-at : goal.invariant-loop-at
invariant-loop-at l = record {
  search : IsLevelSearch l.net.nodes (slice_index l.initial.queue 0) l.net.links l.counts l.queue l.at l.start l.start
      l.count;
  longer : length l.initial.queue ≤ length l.queue;
  past : l.start ≤ l.at;
}

abbrev pub decreases-loop-at : goal.decreases-loop-at
decreases-loop-at l = l.net.nodes - l.at
