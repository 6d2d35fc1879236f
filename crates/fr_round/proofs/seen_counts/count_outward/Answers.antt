use Rattle.std.proofs.Common.{◌≡◌, List, ap, arith, length, ℕ}
use Rattle.fr_graph.proofs.Neighbours.{length-row-le}
use Rattle.fr_graph.specs.Rows.{row}
use Rattle.fr_graph.specs.declared.first.First.{First}
use Rattle.fr_round.proofs.seen_counts.count_outward.Goals as goal

pub overflow_add-outward : goal.overflow_add-outward
overflow_add-outward c =
    let net = c.args.net.now in
    let same : length c.row-first-items.result.now ≡ length (row net.nodes net.links c.args.x) =
    ap (λ (l : List (ℕ × First)). length l) c.row-first-items.ensures in
    omega (
      arith,
      length-row-le net.nodes net.links c.args.x,
      same,
      c.loop-first.invariant.few,
      c.loop-first-test.true,
      c.network_law.ensures.limits.nodes_few,
    )
