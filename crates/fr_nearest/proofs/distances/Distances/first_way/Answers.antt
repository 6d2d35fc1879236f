use Rattle.std.proofs.Common.{ap, arith, get_or, length, rules, slice_index, ◌∙◌, ◌≡◌, ◌≤◌}
use Rattle.fr_nearest.proofs.Entries.{entry_inside}
use Rattle.fr_graph.specs.declared.first.First.TheVariants.{Outward}
use Rattle.fr_nearest.specs.Distances.{no_distance}
use Rattle.fr_nearest.proofs.Ranking.{best_other, best_way, nearest_answer}
use Rattle.fr_nearest.proofs.distances.Distances.first_way.Goals as goal
use Rattle.fr_nearest.proofs.distances.Distances.first_way.Goals.{then-eq+then-distance-least, else-eq, else-eq-via-then-eq+else-distance-least, else-eq-via-else-eq}

pub bounds-distances-w : goal.bounds-distances-w
bounds-distances-w c = entry_inside c.args.net.now c.args.x c.row-row.result.now c.loop-w.w-index
    c.numbers-distances.result.now c.row-row.ensures c.loop-w-test.true
    (ap length c.numbers-distances.ensures ∙ c.requires.measured.one_each)

pub loop-w-preserved : goal.loop-w-preserved
loop-w-preserved c =
    let net = c.args.net.now in
    let entry = get_or c.row-row.result.now c.loop-w.w-index (0, Outward) in
    let table = c.numbers-distances.result.now in
    let inv = c.loop-w.invariant in
    let fits : slice_index table entry.0 ≤ no_distance = omega (arith, c.type_inv.distances entry.0) in
    elim c.if-eq.branch [
      | then-eq+then-distance-least w ↦
          let outward : entry.1 ≡ Outward = search rules in
          rw (w.nearest-is, w.least-is) record {
            best = best_way net.nodes net.links c.args.x c.row-row.result.now c.loop-w.w-index c.row-row.ensures c.loop-w-test.true
                table c.loop-w.least c.loop-w.nearest inv.best outward w.if-distance-least.true inv.most;
            most = fits;
          }
      | else-eq w ↦ rw (w.nearest-is, w.least-is) record {
        best = best_other net.nodes net.links c.args.x c.row-row.result.now c.loop-w.w-index c.row-row.ensures c.loop-w-test.true
            table c.loop-w.least c.loop-w.nearest inv.best fits (elim w.else-eq.branch [
              | else-eq-via-then-eq+else-distance-least v ↦ λ _. v.if-distance-least.false
              | else-eq-via-else-eq v ↦ λ out. let inward : ¬ (entry.1 ≡ Outward) = search rules in absurd (inward out)
            ]);
        most = inv.most;
      }
    ]

pub returns : goal.returns
returns c =
    let net = c.args.net.now in
    nearest_answer net c.args.self.now c.args.x c.network_law.ensures.is_net c.requires.measured c.loop-w.least c.loop-w.w-index c.loop-w.nearest
    c.row-row.result.now c.numbers-distances.result.now c.row-row.ensures c.numbers-distances.ensures (omega (arith, c.loop-w-test.false)) c.loop-w.invariant.best
