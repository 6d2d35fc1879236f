use Rattle.std.proofs.Common.{drop, map, option_map, ◌++◌, ◌≡◌}
use Rattle.fr_requests.specs.Values.{view}
use Rattle.fr_requests.specs.Requests.{read_all}
use Rattle.fr_requests.proofs.read.item_list.Given as goal

-- the items so far, and those of the values ahead, are the items of all values
abbrev pub invariant-loop-item : goal.invariant-loop-item
invariant-loop-item g l =
    read_all g.T.OfValue.in_data (map view l.values) ≡ option_map (λ items. l.items.items ++ items)
    (read_all g.T.OfValue.in_data (map view (drop l.item-index l.values)))
