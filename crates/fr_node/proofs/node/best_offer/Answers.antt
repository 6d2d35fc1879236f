use Rattle.fr_node.specs.Links.{is_offer, offer_of}
use Rattle.fr_node.proofs.Least.{least_more, least_same}
use Rattle.fr_node.proofs.node.best_offer.Goals as goal
use Rattle.fr_node.proofs.node.best_offer.Goals.{in-Some, in_default}

pub loop-link-preserved : goal.loop-link-preserved
loop-link-preserved c =
    let links = c.args.links.now in
    elim c.match-offer.branch [
      | in-Some w ↦ rw w.best-is (least_more (is_offer c.args.ceiling) offer_of links _ _ _ _ _ c.loop-link-test.true
          c.loop-link.invariant w.in-Some.ensures.0 w.in-Some.ensures.1 w.lesser.ensures)
      | in_default w ↦ rw w.best-is (least_same (is_offer c.args.ceiling) offer_of links _ _ _ c.loop-link-test.true
          c.loop-link.invariant w.in_default.ensures)
    ]
