use Rattle.std.proofs.Common.{arith, false, get_or, refl, slice_index, sym, ◌∙◌, ◌≡◌, ◌≢◌}
use Rattle.std.proofs.lemmas.Bool.{false≢true}
use Rattle.std.proofs.lemmas.List.{get_or_read}
use Rattle.fr_nearest.specs.Changes.{IsNoted}
use Rattle.fr_nearest.proofs.NotedNodes.{notes_it}
use Rattle.fr_nearest.proofs.distance_changes.DistanceChanges.note_if_changed.Goals as goal

pub returns-then-not-index : goal.returns-then-not-index
returns-then-not-index c =
    let x = c.args.x in
    let was = c.args.self.now in
    let noted = c.requires.noted in
    let number : c.index.result.now ≡ slice_index was.before.items x =
    get_or_read was.before.items x c.index.result.now (omega (arith, c.requires.node, noted.before)) c.index.ensures 0
    in
    let mark : c.index-then-distances-x.result.now ≡ get_or was.noted.items x false =
    get_or_read was.noted.items x c.index-then-distances-x.result.now (omega (arith, c.requires.node, noted.noted))
    c.index-then-distances-x.ensures false in
    let other : slice_index c.args.distances.now x ≢ slice_index was.before.items x =
    λ e. c.if-distances-x.true (e ∙ sym number) in
    let fresh : ¬ IsNoted was x = λ is. false≢true (sym c.if-not-index.true ∙ (mark ∙ is)) in
    notes_it noted c.requires.node other fresh refl refl c.push_reserved.ensures.items c.push_reserved.ensures.capacity
