use Rattle.std.proofs.Common.{All, Some, ap, arith, refl, sym, ◌∙◌, subst, take_all, ℕ, ◌<◌, ◌≡◌}
use Rattle.std.proofs.lemmas.Bool.{false≢true}
use Rattle.fr_core.proofs.PointsByRow.{inward_is_other, no_entry, none_is_other, points_at}
use Rattle.fr_core.proofs.RowLinks.{row_below}
use Rattle.fr_graph.specs.declared.first.First.{First}
use Rattle.fr_graph.specs.declared.first.First.TheVariants as first
use Rattle.fr_core.proofs.check.points_to.Goals as goal

pub bounds-counts-w : goal.bounds-counts-w
bounds-counts-w c =
    let net = c.args.net.now in
    let below : All (λ (e : ℕ × First). e.0 < net.nodes) c.row-row.result.now =
    rw c.row-row.ensures (row_below net.nodes net.links c.args.x) in
    omega (arith, below c.loop-neighbour.neighbour-index (0, first.Outward) c.loop-neighbour-test.true)

pub returns-in-Some-Outward : goal.returns-in-Some-Outward
returns-in-Some-Outward c =
    let net = c.args.net.now in
    let by = points_at net.nodes net.links c.args.counts.now c.args.x c.args.w c.network_law.ensures.is_net
    c.row-row.result.now c.row-row.ensures c.loop-neighbour.neighbour-index (0, first.Outward)
    c.loop-neighbour-test.true c.if-neighbour-w.true in
    (λ _. by.0 (sym c.sense.ensures ∙ c.in-Some-Outward.is ∙ ap Some c.in-Some-Outward.field-0-is), λ _. refl)

pub returns-in-Some-Inward : goal.returns-in-Some-Inward
returns-in-Some-Inward c =
    let net = c.args.net.now in
    let by = points_at net.nodes net.links c.args.counts.now c.args.x c.args.w c.network_law.ensures.is_net
    c.row-row.result.now c.row-row.ensures c.loop-neighbour.neighbour-index (0, first.Outward)
    c.loop-neighbour-test.true c.if-neighbour-w.true in (
      λ f. absurd (false≢true f),
      λ h. absurd
          (inward_is_other c.sense.result (c.in-Some-Inward.is ∙ ap Some c.in-Some-Inward.field-0-is) (c.sense.ensures
          ∙ by.1 h)),
    )

pub returns-in-None : goal.returns-in-None
returns-in-None c =
    let net = c.args.net.now in
    let by = points_at net.nodes net.links c.args.counts.now c.args.x c.args.w c.network_law.ensures.is_net
    c.row-row.result.now c.row-row.ensures c.loop-neighbour.neighbour-index (0, first.Outward)
    c.loop-neighbour-test.true c.if-neighbour-w.true in
    (λ f. absurd (false≢true f), λ h. absurd (none_is_other c.sense.result c.in-None.is (c.sense.ensures ∙ by.1 h)))

pub returns : goal.returns
returns c =
    let net = c.args.net.now in
    let whole : All (λ (e : ℕ × First). ¬ (e.0 ≡ c.args.w)) c.row-row.result.now =
    subst (All (λ (e : ℕ × First). ¬ (e.0 ≡ c.args.w)))
    (take_all c.loop-neighbour.neighbour-index c.row-row.result.now c.loop-neighbour-test.false)
    c.loop-neighbour.invariant in (
      λ f. absurd (false≢true f),
      λ h. absurd (no_entry net.nodes net.links c.args.counts.now c.args.x c.args.w c.network_law.ensures.is_net
          (rw c.row-row.ensures at whole) h),
    )
