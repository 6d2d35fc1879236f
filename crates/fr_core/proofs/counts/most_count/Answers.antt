use Rattle.std.proofs.Common.{arith, inl, inr, refl}
use Rattle.fr_graph.proofs.Neighbours.{row_alone, row_linked}
use Rattle.fr_core.proofs.counts.most_count.Goals as goal

pub returns-then-degree-eq0 : goal.returns-then-degree-eq0
returns-then-degree-eq0 c =
    let net = c.args.net.now in
    inl (row_alone net.nodes net.links c.args.x c.nodes-nodes.ensures.faultless.is_net (omega arith), refl)

pub returns-else-degree-eq0 : goal.returns-else-degree-eq0
returns-else-degree-eq0 c =
    let net = c.args.net.now in
    inr (
      λ alone. (let link = row_linked net.nodes net.links c.args.x (omega arith) in alone link.0 link.1),
      c.nodes-nodes.ensures.value,
    )
