use Rattle.std.proofs.Common.{List, ap, arith, length, sum, ℕ, ◌<◌, ◌≤◌, ◌==◌, ◌^◌, ◌≡◌}
use Rattle.std.proofs.lemmas.List.Sums.{count_by-le-length}
use Rattle.fr_core.proofs.SettledRuns.{lawful_sum_fits}
use Rattle.fr_core.proofs.Unique.{settled_lawful}
use Rattle.fr_crew.specs.Settlements.{IsCounted}
use Rattle.fr_graph.proofs.Counting.{count-range-le}
use Rattle.fr_graph.specs.Limits.{most_nodes}
use Rattle.fr_graph.specs.Links.{IsNet}
use Rattle.fr_graph.specs.Network.{Network}
use Rattle.fr_route.proofs.CutNodes.{but, cut_by_rows}
use Rattle.fr_route.specs.Outcomes.{settled_state}
use Rattle.fr_graph.specs.Rows.{has_no_neighbour}
use Rattle.fr_route.proofs.RoundEnds.{round_within}
use Rattle.fr_route.proofs.outcome.report_of.Goals as goal

pub overflow_add-result : goal.overflow_add-result
overflow_add-result c =
    let net = c.args.net.now in
    let counts_are = ap length c.counts.ensures in
    omega (
      arith,
      c.count_isolated_nodes.ensures,
      c.count_capped_nodes.ensures,
      count-range-le (but c.args.dest (has_no_neighbour net.nodes net.links)) 0 net.nodes,
      count_by-le-length (λ count. count == c.nodes.result) c.counts.result.now,
      counts_are,
      c.requires.settled.one_each,
      c.nodes.ensures.value,
      c.nodes.type_inv,
    )

-- the sum of settled counts fits a u64
total_fits : (net : Network) (d : ℕ) (counts : List ℕ) → net.nodes ≤ most_nodes → IsNet net.nodes net.links
    → IsCounted net.nodes d net.links counts → sum counts < 2 ^ 64
total_fits net d counts few is counted = lawful_sum_fits net.nodes d net.links counts few
    (settled_lawful net.nodes d net.links is counted.destination counts counted.settled)

pub count_capped_nodes-requires-clause-turned : goal.count_capped_nodes-requires-clause-turned
count_capped_nodes-requires-clause-turned c =
    let known = c.network_law.ensures in
    let fits = total_fits c.args.net.now c.args.dest c.args.turns.now known.limits.nodes_few known.is_net c.requires in
    omega (arith, c.total-turned.ensures, fits, ap sum c.counts.ensures)

pub returns : goal.returns
returns c =
    let net = c.args.net.now in
    let known = c.network_law.ensures in
    let fits = total_fits net c.args.dest c.args.turns.now known.limits.nodes_few known.is_net c.requires in
    let turns : c.total-turned.result ≡ sum c.args.turns.now = omega (arith, c.total-turned.ensures, fits) in
    record {
      turns = turns;
      cut_off =
          rw (c.count_isolated_nodes.ensures, c.count_capped_nodes.ensures, c.nodes.ensures.value, c.counts.ensures)
          (cut_by_rows net c.args.dest c.args.turns.now known.is_net c.requires);
      most = round_within (settled_state net c.args.dest c.args.turns.now) c.total-turned.result turns;
    }
