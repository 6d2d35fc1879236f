use Rattle.std.proofs.Common.{length, take, ◌≡◌}
use Rattle.fr_tables.specs.Inside.{AreListed}
use Rattle.fr_tables.proofs.push_room.list_keys.Given as goal

abbrev pub invariant-loop-x : goal.invariant-loop-x
invariant-loop-x l = record {
  one_each : length l.keys ≡ length l.fn.keys;
  listed : AreListed l.marks l.last (take l.x-index l.changed) l.keys l.places;
}
