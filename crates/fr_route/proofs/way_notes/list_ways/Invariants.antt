use Rattle.std.proofs.Common.{length, take, ◌≤◌}
use Rattle.fr_route.specs.WayNotes.{AreWaysOf}
use Rattle.fr_route.proofs.way_notes.list_ways.Given as goal

abbrev pub invariant-loop-x : goal.invariant-loop-x
invariant-loop-x l = record {
  listed : AreWaysOf l.net.nodes l.net.links l.distances.dest (take l.x-index l.nodes) l.table;
  space : l.net.nodes ≤ length l.space;
}
