use Rattle.std.proofs.Common.{ap, arith, get_or, length, slice_set, ◌<◌, ◌∙◌, ℕ}
use Rattle.std.proofs.lemmas.List.{get_or_default}
use Rattle.std.proofs.lemmas.List.Edits.{map_over_more}
use Rattle.fr_graph.specs.Turn.{turned_link}
use Rattle.revdot.proofs.turns.turn_node.Goals as goal

pub loop-link-preserved : goal.loop-link-preserved
loop-link-preserved c =
    let now = c.loop-link.links in
    let i = c.loop-link.link-index in
    let d : ℕ × ℕ = (0, 0) in
    let inside : i < length c.args.links.now = c.loop-link-test.true in
    let here : i < length now = omega (arith, inside, c.loop-link.auto.links) in
    ap (slice_set now i) c.link_after_turn.ensures
    ∙ map_over_more (turned_link c.args.x) c.args.links.now now i (get_or now i d) inside c.loop-link.invariant
    (get_or_default now i d (get_or now i d) here)
