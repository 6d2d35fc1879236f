use Rattle.std.proofs.Common.{Contains, length, slice_index, ◌<◌, ◌≡◌, ◌≢◌, ◌≤◌, ℕ}
use Rattle.fr_nearest.specs.Changes.{AreNoted}
use Rattle.fr_nearest.proofs.distance_changes.DistanceChanges.note_all_changed.Given as goal

abbrev pub invariant-loop-x : goal.invariant-loop-x
invariant-loop-x l = record {
  before : l.self.before ≡ l.fn.self.before;
  noted : AreNoted l.distances l.self;
  few : length l.self.nodes.items ≤ l.x;
  has : (y : ℕ) → y < l.x → slice_index l.distances y ≢ slice_index l.self.before.items y
      → Contains l.self.nodes.items y;
}
