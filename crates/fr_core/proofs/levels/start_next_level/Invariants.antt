use Rattle.std.proofs.Common.{length, slice_index, ◌≤◌}
use Rattle.fr_core.specs.LevelSearch.{IsLevelSearch}
use Rattle.fr_core.proofs.levels.start_next_level.Given as goal

abbrev pub invariant-loop-at : goal.invariant-loop-at
invariant-loop-at l = record {
  search : IsLevelSearch l.net.nodes (slice_index l.initial.queue 0) l.net.links l.counts l.queue
      (length l.initial.queue) l.at (length l.initial.queue) l.count;
  longer : length l.initial.queue ≤ length l.queue;
}
