use Rattle.std.proofs.Common.{length, take, ◌≡◌, ◌≤◌}
use Rattle.fr_nearest.specs.Changes.{AreNoted}
use Rattle.fr_nearest.proofs.NotedNodes.{HasNoted}
use Rattle.fr_nearest.proofs.distance_changes.DistanceChanges.note_changed_among.Given as goal

abbrev pub invariant-loop-x : goal.invariant-loop-x
invariant-loop-x l = record {
  before : l.self.before ≡ l.fn.self.before;
  noted : AreNoted l.distances l.self;
  few : length l.self.nodes.items ≤ l.x-index;
  has : HasNoted l.distances l.self (take l.x-index l.nodes);
}
