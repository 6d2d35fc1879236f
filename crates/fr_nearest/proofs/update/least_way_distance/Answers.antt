use Rattle.std.proofs.Common.{arith, get_or, length, min, rules, slice_index, ◌+◌, ◌≡◌}
use Rattle.fr_graph.specs.Rows.{row}
use Rattle.fr_graph.specs.declared.first.First.TheVariants.{Outward}
use Rattle.fr_nearest.specs.Update.{IsLeast}
use Rattle.fr_nearest.proofs.Entries.{entry_inside}
use Rattle.fr_nearest.proofs.Updating.{least_all, least_enough, least_in, least_none, least_out}
use Rattle.fr_nearest.proofs.update.least_way_distance.Goals as goal
use Rattle.fr_nearest.proofs.update.least_way_distance.Goals.{then-eq+else-least-enough, else-eq}

pub bounds-distances-w : goal.bounds-distances-w
bounds-distances-w c = entry_inside c.args.net.now c.args.x c.row-row.result.now c.loop-w.w-index c.args.distances.now
    c.row-row.ensures c.loop-w-test.true c.requires.one_each

pub loop-w-init : goal.loop-w-init
loop-w-init c = least_none c.args.distances.now c.row-row.result.now

pub returns-then-least-enough : goal.returns-then-least-enough
returns-then-least-enough c =
    let net = c.args.net.now in
    let outward : (get_or c.row-row.result.now c.loop-w.w-index (0, Outward)).1 ≡ Outward = search rules in
    let is : c.min-least.result ≡ min c.loop-w.least (slice_index c.args.distances.now
    (get_or c.row-row.result.now c.loop-w.w-index (0, Outward)).0) = search rules in
    let more : IsLeast c.args.distances.now c.row-row.result.now (c.loop-w.w-index + 1) c.min-least.result =
    rw is (least_out c.loop-w.invariant c.loop-w-test.true outward) in
    let entries = row net.nodes net.links c.args.x in
    let least : IsLeast c.args.distances.now entries (c.loop-w.w-index + 1) c.min-least.result =
    rw c.row-row.ensures at more in
    least_enough net c.args.x (c.loop-w.w-index + 1) c.args.enough least c.if-least-enough.true

pub loop-w-preserved : goal.loop-w-preserved
loop-w-preserved c =
    let entry = get_or c.row-row.result.now c.loop-w.w-index (0, Outward) in
    elim c.if-eq.branch [
      | then-eq+else-least-enough w ↦
          let outward : entry.1 ≡ Outward = search rules in
          let is : w.min-least.result ≡ min c.loop-w.least (slice_index c.args.distances.now entry.0) = search rules in
          rw (w.least-is, is) (least_out c.loop-w.invariant c.loop-w-test.true outward)
      | else-eq w ↦
          let inward : ¬ (entry.1 ≡ Outward) = search rules in
          rw w.least-is (least_in c.loop-w.invariant c.loop-w-test.true inward)
    ]

pub returns : goal.returns
returns c =
    let net = c.args.net.now in
    let all : c.loop-w.w-index ≡ length c.row-row.result.now = omega arith in
    let entries = row net.nodes net.links c.args.x in
    let least : IsLeast c.args.distances.now entries (length entries) c.loop-w.least =
    rw (all, c.row-row.ensures) at c.loop-w.invariant in
    least_all c.args.enough c.network_law.ensures.is_net least
