use Rattle.std.proofs.Common.{arith, sym, take}
use Rattle.fr_graph.proofs.Neighbours.{length-row-le}
use Rattle.fr_nearest.specs.Ranks.{AreRanked}
use Rattle.fr_nearest.proofs.Ranking.{had_below, ways_sorted}
use Rattle.fr_nearest.proofs.distances.Distances.write_ways_before.Goals as goal

pub rank_ways_before-count-requires-clause-room : goal.rank_ways_before-count-requires-clause-room
rank_ways_before-count-requires-clause-room c =
    let net = c.args.net.now in
    omega (arith, length-row-le net.nodes net.links c.args.x, c.requires.space)

pub returns-clause-ways : goal.returns-clause-ways
returns-clause-ways c =
    let law = c.network_law.ensures in
    let count = c.rank_ways_before-count.result in
    λ links d are had.
    let ranked : AreRanked links c.args.self.now.before c.args.x (take count c.rank_ways_before-count.new.ranks) =
    rw (sym c.numbers_before.ensures) (c.rank_ways_before-count.ensures.ranked links had) in
    ways_sorted (had_below c.args.net.now.nodes c.args.net.now.links c.args.counts.now links c.args.x law.is_net had)
    are law.limits.nodes_few ranked c.sort_ways.ensures
