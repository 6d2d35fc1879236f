use Rattle.std.proofs.Common.{arith}
use Rattle.fr_node.specs.Policies.{is_higher, is_up}
use Rattle.fr_node.proofs.Best.{best_all, best_more, best_same, by_height}
use Rattle.fr_node.proofs.node.highest_link.Goals as goal
use Rattle.fr_node.proofs.node.highest_link.Goals.{else-link, then-link}

pub loop-link-preserved : goal.loop-link-preserved
loop-link-preserved c =
    elim c.if-link.branch [
      | then-link w ↦ rw w.best-is (best_more is_up is_higher by_height c.args.links.now c.loop-link.link-index _
          c.loop-link-test.true c.loop-link.best _ c.loop-link.invariant w.if-link.true w.higher_link.ensures)
      | else-link w ↦ rw w.best-is (best_same is_up is_higher by_height c.args.links.now c.loop-link.link-index _
          c.loop-link-test.true c.loop-link.best c.loop-link.invariant w.if-link.false)
    ]

pub returns : goal.returns
returns c = best_all is_up is_higher c.args.links.now c.loop-link.link-index c.loop-link.best
    (omega (arith, c.loop-link-test.false)) c.loop-link.invariant
