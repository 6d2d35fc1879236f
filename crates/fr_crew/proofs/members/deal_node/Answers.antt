use Rattle.std.proofs.Common.{◌∙◌, arith, subst, sym}
use Rattle.fr_graph.proofs.Neighbours.{row_linked}
use Rattle.fr_round.specs.declared.view.Setup.{Setup}
use Rattle.fr_crew.specs.Candidates.{IsCandidate}
use Rattle.fr_crew.proofs.members.deal_node.Goals as goal

pub put_shared-requires : goal.put_shared-requires
put_shared-requires g c =
    let b : Setup = c.args.round.now.setup in
    let linked =
    row_linked c.net-net.result.now.nodes c.net-net.result.now.links c.args.x (omega (
      arith,
      c.if-degree-gt0.true,
      c.degree.ensures,
    )) in
    let joined = rw c.net-net.ensures.links at linked in
    subst (λ (s : Setup). IsCandidate s c.args.x) c.requires.named (
      omega (arith, c.if-x-nodes.true, c.nodes.ensures.value, c.net-net.ensures.nodes),
      λ same. c.if-x-dest.true (same ∙ sym c.dest.ensures),
      λ alone. alone joined.0 joined.1,
    )
