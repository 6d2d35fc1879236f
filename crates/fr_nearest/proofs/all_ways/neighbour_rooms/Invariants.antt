use Rattle.std.proofs.Common.{◌*◌, ◌^◌, ◌≤◌}
use Rattle.fr_nearest.specs.Order.{AreRooms, degree}
use Rattle.fr_nearest.proofs.all_ways.neighbour_rooms.Given as goal

abbrev pub invariant-loop-x : goal.invariant-loop-x
invariant-loop-x l = record {
  rooms : AreRooms (degree l.net) l.x l.starts.items l.room;
  few : l.room ≤ l.x * 2 ^ 32;
}
