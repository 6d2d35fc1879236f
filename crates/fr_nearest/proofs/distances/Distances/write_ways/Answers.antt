use Rattle.std.proofs.Common.{arith, sym, take}
use Rattle.fr_graph.proofs.Neighbours.{length-row-le}
use Rattle.fr_nearest.specs.Ranks.{AreRanked}
use Rattle.fr_nearest.proofs.Ranking.{inside_net, ways_sorted}
use Rattle.fr_nearest.proofs.distances.Distances.write_ways.Goals as goal

pub rank_ways-count-requires-clause-room : goal.rank_ways-count-requires-clause-room
rank_ways-count-requires-clause-room c =
    let net = c.args.net.now in
    omega (arith, length-row-le net.nodes net.links c.args.x, c.requires.space)

pub returns-clause-ways : goal.returns-clause-ways
returns-clause-ways c =
    let net = c.args.net.now in
    let law = c.network_law.ensures in
    let count = c.rank_ways-count.result in
    let ranked : AreRanked net.links c.args.self.now.table c.args.x (take count c.rank_ways-count.new.ranks) =
    rw (sym c.numbers.ensures) c.rank_ways-count.ensures.ranked in
    ways_sorted (inside_net net.nodes net.links c.args.x law.is_net) c.requires.measured law.limits.nodes_few ranked
    c.sort_ways.ensures
