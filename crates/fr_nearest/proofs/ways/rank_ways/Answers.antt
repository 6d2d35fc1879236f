use Rattle.std.proofs.Common.{ap, arith, length, take, ◌∙◌, ◌<◌, ◌≤◌}
use Rattle.std.proofs.lemmas.List.{length-set}
use Rattle.fr_graph.specs.Rows.{row}
use Rattle.fr_nearest.specs.Ranks.{AreRankedTo, IsOut}
use Rattle.fr_nearest.proofs.Entries.{entry_inside}
use Rattle.fr_nearest.proofs.Ranking.{listed_all, out_now, ranked_more}
use Rattle.fr_nearest.proofs.ways.rank_ways.Goals as goal

pub bounds-distances-w : goal.bounds-distances-w
bounds-distances-w c = entry_inside c.args.net.now c.args.x c.row-row.result.now c.loop-w.w-index c.args.distances.now
    c.row-row.ensures c.loop-w-test.true c.requires.one_each

pub loop-w-preserved : goal.loop-w-preserved
loop-w-preserved c =
    let net = c.args.net.now in
    let place = c.loop-w.w-index in
    let inv = c.loop-w.invariant in
    let inside = c.loop-w-test.true in
    let put = c.write_rank_if_way-count.ensures in
    let room : c.loop-w.count < length c.loop-w.ranks =
    omega (arith, inv.few, inside, ap length c.row-row.ensures, c.requires.room, inv.same) in
    record {
      ranked = ranked_more net.nodes net.links c.args.x c.row-row.result.now place c.row-row.ensures inside
          c.points_away-is_out.result c.loop-w.ranks c.loop-w.count c.points_away-is_out.ensures room put.written
          put.way put.other inv.ranked;
      few = omega (arith, inv.few, put.few);
      same = ap length put.written ∙ length-set _ _ _ ∙ inv.same;
    }

pub returns-clause-ranked : goal.returns-clause-ranked
returns-clause-ranked c =
    let net = c.args.net.now in
    let entries = row net.nodes net.links c.args.x in
    let place = c.loop-w.w-index in
    let ranked : AreRankedTo IsOut c.args.distances.now entries place (take c.loop-w.count c.loop-w.ranks) =
    rw c.row-row.ensures at c.loop-w.invariant.ranked in
    let end : length entries ≤ place = omega (arith, c.loop-w-test.false, ap length c.row-row.ensures) in
    let out = out_now net.nodes net.links c.args.x c.network_law.ensures.is_net in
    (ranked.0, listed_all place out end ranked.1, ranked.2)
