use Rattle.std.proofs.Common.{rules, refl, ◌≡◌, length}
use Rattle.std.proofs.lemmas.List.{length-map}
use Rattle.fr_node.specs.declared.way.Way.{Way}
use Rattle.revroute_c.specs.NodeCalls.{neighbours_of}
use Rattle.revroute_c.proofs.node_state.write_ways.Goals as goal

pub returns-clause-gives : goal.returns-clause-gives
returns-clause-gives c =
    let ws = c.list_ways.new.ways.items in
    let long : length (neighbours_of ws) ≡ length ws = length-map ws (λ (w : Way). w.neighbour) in
    record {
      written = λ is. (neighbours_of ws, (ws, c.list_ways.ensures.ways, refl), search rules, search rules);
      too_short = λ is. (search rules, (neighbours_of ws, (ws, c.list_ways.ensures.ways, refl), search rules));
      unchanged = search rules;
      none = search rules;
    }
