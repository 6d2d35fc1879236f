use Rattle.std.proofs.Common.{map, ◌≡◌}
use Rattle.std.specs.List.{range_with_len}
use Rattle.fr_graph.specs.Tables.{place_between}
use Rattle.fr_graph.proofs.row_table.adjacent_row_places.Given as goal

abbrev pub invariant-loop-x : goal.invariant-loop-x
invariant-loop-x l = l.places.items ≡ map (place_between l.starts) (range_with_len 0 l.x)
