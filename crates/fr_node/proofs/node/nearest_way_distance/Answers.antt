use Rattle.std.proofs.Common.{sym, ◌∙◌}
use Rattle.fr_node.specs.Distances.{distance_over}
use Rattle.fr_node.specs.Links.{is_way}
use Rattle.fr_node.proofs.Least.{least_more, least_same}
use Rattle.fr_node.proofs.node.nearest_way_distance.Goals as goal
use Rattle.fr_node.proofs.node.nearest_way_distance.Goals.{else-is_way, then-is_way}

pub loop-link-preserved : goal.loop-link-preserved
loop-link-preserved c =
    let own = c.args.own.now in
    let links = c.args.links.now in
    elim c.if-is_way.branch [
      | then-is_way w ↦ rw w.nearest-is (least_more (is_way own) distance_over links _ _ _ _ _ c.loop-link-test.true
          c.loop-link.invariant (sym c.is_way.ensures ∙ w.if-is_way.true) w.distance_over.ensures w.lesser.ensures)
      | else-is_way w ↦ rw w.nearest-is (least_same (is_way own) distance_over links _ _ _ c.loop-link-test.true
          c.loop-link.invariant (sym c.is_way.ensures ∙ w.if-is_way.false))
    ]
