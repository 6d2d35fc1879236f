use Rattle.std.proofs.Common.{All, ap, arith, length, subst, take_all, ℕ, ◌<◌, ◌≡◌}
use Rattle.fr_core.proofs.Reaching.{reached_step}
use Rattle.fr_core.proofs.RowLinks.{row_below}
use Rattle.fr_core.specs.Reaching.{IsReached}
use Rattle.fr_graph.specs.Rows.{row}
use Rattle.fr_graph.specs.declared.first.First.{First}
use Rattle.fr_graph.specs.declared.first.First.TheVariants.{Outward}
use Rattle.fr_core.proofs.levels.reach_neighbours.Goals as goal

pub reach_neighbour-requires-clause-node : goal.reach_neighbour-requires-clause-node
reach_neighbour-requires-clause-node c =
    let net = c.args.net.now in
    let below : All (λ (e : ℕ × First). e.0 < net.nodes) c.row-entry-items.result.now =
    rw c.row-entry-items.ensures (row_below net.nodes net.links c.args.x) in
    below c.loop-entry.entry-index (0, Outward) c.loop-entry-test.true

pub loop-entry-preserved : goal.loop-entry-preserved
loop-entry-preserved c =
    let net = c.args.net.now in
    let same : length c.row-entry-items.result.now ≡ length (row net.nodes net.links c.args.x) =
    ap length c.row-entry-items.ensures in
    let p = reached_step net.nodes c.args.level.count (row net.nodes net.links c.args.x)
    c.args.level.wanted c.args.counts.now c.args.queue.now c.loop-entry.entry-index (omega arith)
    c.loop-entry.counts c.loop-entry.queue c.reach_neighbour.new.counts c.reach_neighbour.new.queue
    (c.loop-entry.invariant.only, c.loop-entry.invariant.reached)
    (rw c.row-entry-items.ensures at c.reach_neighbour.ensures.only)
    (rw c.row-entry-items.ensures at c.reach_neighbour.ensures.reached) in
    record { only = p.0; reached = p.1 }

pub returns-clause-reached : goal.returns-clause-reached
returns-clause-reached c =
    let net = c.args.net.now in
    let same : length c.row-entry-items.result.now ≡ length (row net.nodes net.links c.args.x) =
    ap length c.row-entry-items.ensures in
    subst (All (IsReached net.nodes c.loop-entry.counts c.args.level.wanted))
    (take_all c.loop-entry.entry-index (row net.nodes net.links c.args.x) (omega arith)) c.loop-entry.invariant.reached
