use Rattle.std.proofs.Common.{◌∙◌, subst, sym}
use Rattle.fr_core.specs.Machine.{neighbour_at}
use Rattle.fr_round.specs.declared.view.Setup.{Setup}
use Rattle.fr_crew.specs.Candidates.{IsCandidate}
use Rattle.fr_crew.proofs.Candidates.{entry_at, neighbour_is_candidate}
use Rattle.fr_crew.proofs.deques.Deque.put_neighbours.Goals as goal

pub put-requires : goal.put-requires
put-requires g c =
    let b : Setup = c.args.round.now.setup in
    let entry = neighbour_at c.row-neighbour-items.result.now c.loop-neighbour.neighbour-index in
    let is_row = rw (c.net.ensures.nodes, c.net.ensures.links) at c.row-neighbour-items.ensures in
    let stands =
    entry_at b c.args.x c.row-neighbour-items.result.now is_row c.loop-neighbour.neighbour-index
    c.loop-neighbour-test.true in
    subst (λ (s : Setup). IsCandidate s entry.0) c.requires.named
    (neighbour_is_candidate b c.args.x entry stands (λ same. c.if-neighbour-dest.true (same ∙ sym c.dest-dest.ensures)))
