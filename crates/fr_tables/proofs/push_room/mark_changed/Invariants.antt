use Rattle.std.proofs.Common.{length, take, ◌≡◌}
use Rattle.fr_tables.specs.Inside.{AreNoted}
use Rattle.fr_tables.proofs.push_room.mark_changed.Given as goal

abbrev pub invariant-loop-x : goal.invariant-loop-x
invariant-loop-x l = record {
  one_each : length l.differ ≡ length l.fn.differ;
  noted : AreNoted (take l.x-index l.changed) l.differ;
}
