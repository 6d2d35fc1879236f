use Rattle.std.proofs.Common.{All, ap, arith, length, subst, take_all, ℕ, ◌<◌, ◌≡◌}
use Rattle.std.proofs.lemmas.Bool.{false≢true}
use Rattle.std.proofs.lemmas.Bool.Decides.{nat_tests}
use Rattle.std.proofs.lemmas.List.Elements.{All-more}
use Rattle.fr_core.proofs.RowLinks.{row_below}
use Rattle.fr_core.proofs.SensesByRow.{PointsBy, row_of_sink, row_points_in, sink_from_row}
use Rattle.fr_core.specs.declared.directions.Sense.TheVariants.{Inward}
use Rattle.fr_graph.specs.Rows.{row}
use Rattle.fr_graph.specs.declared.first.First.{First}
use Rattle.fr_graph.specs.declared.first.First.TheVariants as first
use Rattle.fr_core.proofs.counts.is_sink.Goals as goal

pub bounds-counts-w : goal.bounds-counts-w
bounds-counts-w c =
    let net = c.args.net.now in
    let below : All (λ (e : ℕ × First). e.0 < net.nodes) c.row-row.result.now =
    rw c.row-row.ensures (row_below net.nodes net.links c.args.x) in
    omega (arith, below c.loop-w.w-index (0, first.Outward) c.loop-w-test.true)

pub returns-in-Some-Outward : goal.returns-in-Some-Outward
returns-in-Some-Outward c = (
  λ f. absurd (false≢true f),
  λ sink.
      let net = c.args.net.now in
      let all : All (PointsBy c.args.counts.now c.args.x Inward) c.row-row.result.now =
      rw c.row-row.ensures (row_points_in net.nodes net.links c.args.counts.now c.args.x c.requires.kept sink) in
      let here = all c.loop-w.w-index (0, first.Outward) c.loop-w-test.true in
      cc,
)

pub returns-in-Some-Outward-2 : goal.returns-in-Some-Outward-2
returns-in-Some-Outward-2 c = (
  λ f. absurd (false≢true f),
  λ sink.
      let net = c.args.net.now in
      let all : All (PointsBy c.args.counts.now c.args.x Inward) c.row-row.result.now =
      rw c.row-row.ensures (row_points_in net.nodes net.links c.args.counts.now c.args.x c.requires.kept sink) in
      let here = all c.loop-w.w-index (0, first.Outward) c.loop-w-test.true in
      cc,
)

pub loop-w-preserved : goal.loop-w-preserved
loop-w-preserved c =
    All-more (PointsBy c.args.counts.now c.args.x Inward) c.row-row.result.now c.loop-w.w-index (0, first.Outward)
    c.loop-w-test.true c.loop-w.invariant (cc)

pub returns : goal.returns
returns c =
    let net = c.args.net.now in
    let whole : All (PointsBy c.args.counts.now c.args.x Inward) c.row-row.result.now =
    subst (All (PointsBy c.args.counts.now c.args.x Inward))
    (take_all c.loop-w.w-index c.row-row.result.now c.loop-w-test.false) c.loop-w.invariant in
    let length_same : length c.row-row.result.now ≡ length (row net.nodes net.links c.args.x) =
    ap length c.row-row.ensures in (
      λ some. (let filled : 0 < length c.row-row.result.now = grind (arith, nat_tests) in
          sink_from_row net.nodes net.links c.args.counts.now c.args.x c.network_law.ensures.is_net (omega arith)
          (rw c.row-row.ensures at whole)),
      λ sink. (let filled = row_of_sink net.nodes net.links c.args.counts.now c.args.x c.network_law.ensures.is_net
          sink in grind (arith, nat_tests)),
    )
