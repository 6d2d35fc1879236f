use Rattle.std.proofs.Common.{rules}
use Rattle.fr_route.proofs.OutByRow.{least_at, none_out}
use Rattle.fr_route.proofs.hops.lowest_outward_neighbour.Goals as goal

pub returns-then-eq : goal.returns-then-eq
returns-then-eq c =
    least_at c.args.net.now.nodes c.args.net.now.links c.args.x c.network_law.ensures.is_net c.row-row.result.now
    c.row-row.ensures c.loop-w.w-index _ c.loop-w-test.true
    (search rules) c.loop-w.invariant

pub returns : goal.returns
returns c =
    none_out c.args.net.now.nodes c.args.net.now.links c.args.x c.network_law.ensures.is_net c.row-row.result.now
    c.row-row.ensures c.loop-w.w-index c.loop-w-test.false c.loop-w.invariant
