use Rattle.std.proofs.Common.{arith, get_or, length, refl, rules, ◌∙◌, ◌≡◌}
use Rattle.fr_nearest.proofs.Entries.{entry_inside}
use Rattle.fr_graph.proofs.SideRows.{entry_below}
use Rattle.fr_graph.specs.Rows.{row}
use Rattle.fr_graph.specs.declared.first.First.TheVariants.{Inward, Outward}
use Rattle.fr_nearest.specs.Search.{HasReached}
use Rattle.fr_nearest.proofs.Reaching.{has_room, reading_passed, reading_reached, row_read}
use Rattle.fr_nearest.proofs.search.reach_from.Goals as goal
use Rattle.fr_nearest.proofs.search.reach_from.Goals.{then-eq+then-distances-y, else-eq, else-eq-via-then-eq+else-distances-y, else-eq-via-else-eq}

pub bounds-distances-y : goal.bounds-distances-y
bounds-distances-y c = entry_inside c.args.net.now c.index.result.now c.row-row.result.now c.loop-y.y-index
    c.loop-y.distances c.row-row.ensures c.loop-y-test.true
    (c.loop-y.invariant.reading.one_each ∙ c.requires.search.1.one_each)

pub push_reserved-requires : goal.push_reserved-requires
push_reserved-requires c =
    let net = c.args.net.now in
    let low = entry_below net.nodes net.links c.index.result.now c.row-row.result.now c.loop-y.y-index (0, Outward) c.row-row.ensures c.loop-y-test.true in
    let room = has_room c.requires.search.0 c.index.result.now c.args.read c.row-row.result.now c.loop-y.y-index c.network_law.ensures.is_net
    c.network_law.ensures.limits.nodes_few c.requires.search.1 c.row-row.ensures c.loop-y-test.true c.loop-y.invariant.reading _ low c.if-distances-y.true in
    omega (arith, room, c.requires.room, c.loop-y.invariant.room, c.loop-y.list.ok.0)

pub loop-y-preserved : goal.loop-y-preserved
loop-y-preserved c =
    let inv = c.loop-y.invariant in
    let few = c.network_law.ensures.limits.nodes_few in
    let net = c.network_law.ensures.is_net in
    elim c.if-eq.branch [
      | then-eq+then-distances-y w ↦ rw (w.distances-is, w.list-is) record {
        reading = rw w.push_reserved.ensures.items (reading_reached c.requires.search.0 c.index.result.now c.args.read c.row-row.result.now
            c.loop-y.y-index net few c.requires.search.1 c.row-row.ensures c.loop-y-test.true inv.reading _ refl (search rules) w.if-distances-y.true);
        room = w.push_reserved.ensures.capacity ∙ inv.room;
      }
      | else-eq w ↦ rw (w.distances-is, w.list-is) record {
        reading = reading_passed c.requires.search.0 c.index.result.now c.args.read c.row-row.result.now
            c.loop-y.y-index net few c.requires.search.1 c.row-row.ensures c.loop-y-test.true inv.reading
            (elim w.else-eq.branch [
              | else-eq-via-then-eq+else-distances-y v ↦ λ _ e. v.if-distances-y.false e
              | else-eq-via-else-eq v ↦ λ inward. let other : ¬ ((get_or c.row-row.result.now c.loop-y.y-index (0, Outward)).1 ≡ Inward) = search rules in absurd (other inward)
            ]);
        room = inv.room;
      }
    ]

pub returns-clause-search : goal.returns-clause-search
returns-clause-search c =
    let net = c.args.net.now in
    let reading = c.loop-y.invariant.reading in
    let all : c.loop-y.y-index ≡ length c.row-row.result.now = omega arith in
    let reached : HasReached c.loop-y.distances c.index.result.now (row net.nodes net.links c.index.result.now)
    (length (row net.nodes net.links c.index.result.now)) = rw (all, c.row-row.ensures) at reading.reached in
    λ d begun. row_read c.args.read c.index.result.now c.network_law.ensures.is_net (reading.search d begun) reading.left reading.here reached
