use Rattle.std.proofs.Common.{ap, arith, get_or, length, slice_set, ◌<◌, ◌∙◌}
use Rattle.std.proofs.lemmas.List.{get_or_default}
use Rattle.std.proofs.lemmas.List.Edits.{map_over_more}
use Rattle.fr_node.specs.declared.link.Link.{Link}
use Rattle.fr_node.specs.Links.{after_tick, unknown}
use Rattle.fr_node.proofs.node.tick_links.Goals as goal

pub loop-link-preserved : goal.loop-link-preserved
loop-link-preserved c =
    let now = c.loop-link.links in
    let i = c.loop-link.link-index in
    let d : Link = record unknown { cost = 0; distance = 0 } in
    let inside : i < length c.args.links.now = c.loop-link-test.true in
    let here : i < length now = omega (arith, inside, c.loop-link.auto.links) in
    ap (slice_set now i) c.after_tick.ensures
    ∙ map_over_more (after_tick c.args.patience) c.args.links.now now i (get_or now i d) inside
    c.loop-link.invariant (get_or_default now i d (get_or now i d) here)
