use Rattle.std.proofs.Common.{drop, map, option_map, ◌++◌, ◌≡◌}
use Rattle.fr_requests.specs.Values.{view}
use Rattle.fr_requests.specs.Requests.{read_all, ways_in}
use Rattle.fr_requests.proofs.read.way_table.Given as goal

-- the rows so far, and those of the values ahead, are the rows of all values
abbrev pub invariant-loop-item : goal.invariant-loop-item
invariant-loop-item l =
    read_all ways_in (map view l.values) ≡ option_map (λ rows. l.table ++ rows)
    (read_all ways_in (map view (drop l.item-index l.values)))
