use Rattle.std.proofs.Common.{◌≡◌, ◌++◌, map, refl, string_bytes}
use Rattle.std.proofs.lemmas.Result.{on_ok_weaker}
use Rattle.std.specs.List.{range_with_len}
use Rattle.revdot.specs.Graphs.{graph_text}
use Rattle.revdot.specs.Settled.{IsGraphOf, settled_link, settled_node}
use Rattle.revdot.proofs.settled.push_settled.Goals as goal

pub returns : goal.returns
returns c =
    let s = c.args.router.now in
    let hops = c.hops-hops.result.now in
    let text =
    graph_text c.args.direction c.args.label s.dest (map (settled_node s.counts hops) (range_with_len 0 s.nodes))
    (map (settled_link hops) s.links) in
    let graph : IsGraphOf c.args.direction c.args.label s text =
    record { hops = hops; are_hops = c.hops-hops.ensures; text = refl } in
    on_ok_weaker c.push_graph.result
    (λ (drawn : string_bytes c.push_graph.new.text ≡ string_bytes c.args.text.now ++ text). (text, graph, drawn))
    (rw (
      c.dest.ensures.value,
      c.deref.ensures.value,
      c.deref-2.ensures.value,
      c.in_ok-nodes.ensures,
      c.in_ok-links.ensures,
    ) at c.push_graph.ensures)
