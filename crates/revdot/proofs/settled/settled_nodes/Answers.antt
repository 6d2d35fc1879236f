use Rattle.std.proofs.Common.{sym, arith}
use Rattle.std.proofs.lemmas.List.FromFn.{map-range_with_len_more}
use Rattle.revdot.specs.Settled.{settled_node}
use Rattle.revdot.proofs.settled.settled_nodes.Goals as goal

pub loop-x-preserved : goal.loop-x-preserved
loop-x-preserved c =
    rw (c.in_ok-push.ensures.items, c.style_by_hop.ensures, c.loop-x.invariant)
    (sym (map-range_with_len_more (settled_node c.counts-counts.result.now c.args.hops.now) 0 c.loop-x.x c.loop-x.x
    (omega arith)))
