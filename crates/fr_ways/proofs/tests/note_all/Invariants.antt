use Rattle.std.proofs.Common.{length, ◌≤◌}
use Rattle.fr_ways.specs.Changes.{HasRoomFor, IsNotedTo}
use Rattle.fr_ways.proofs.tests.note_all.Given as goal

abbrev pub invariant-loop-x : goal.invariant-loop-x
invariant-loop-x l = record {
  low : l.x ≤ length l.new;
  noted : IsNotedTo l.old l.new l.x l.changes;
  room : HasRoomFor l.new l.changes;
}
