use Rattle.std.proofs.Common.{arith}
use Rattle.std.proofs.lemmas.List.FromFn.{map-range_with_len_more}
use Rattle.revdot.specs.Strips.{turn_node}
use Rattle.revdot.proofs.strips.turn_nodes.Goals as goal

pub loop-y-preserved : goal.loop-y-preserved
loop-y-preserved c =
    let f = turn_node c.args.dest c.args.counts.now c.args.x in
    let items = c.in_ok-push.ensures.items in
    let more = map-range_with_len_more f 0 c.loop-y.y c.loop-y.y (omega arith) in
    cc
