use Rattle.std.proofs.Common.{All, arith, refl, subst, take_all, ℕ, ◌<◌}
use Rattle.std.proofs.lemmas.Bool.{false≢true}
use Rattle.std.proofs.lemmas.List.Elements.{All-more}
use Rattle.fr_core.proofs.RowLinks.{row_below}
use Rattle.fr_core.specs.CutOff.{HasTurned}
use Rattle.fr_graph.specs.declared.first.First.{First}
use Rattle.fr_graph.specs.declared.first.First.TheVariants as first
use Rattle.fr_core.proofs.cut_off.have_neighbours_turned.Goals as goal

pub bounds-counts-w : goal.bounds-counts-w
bounds-counts-w c =
    let net = c.args.net.now in
    let below : All (λ (e : ℕ × First). e.0 < net.nodes) c.row-row.result.now =
    rw c.row-row.ensures (row_below net.nodes net.links c.args.x) in
    omega (arith, c.requires.one_each, below c.loop-w.w-index (0, first.Outward) c.loop-w-test.true)

pub returns-then-counts-w-eq0 : goal.returns-then-counts-w-eq0
returns-then-counts-w-eq0 c = (
  λ f. absurd (false≢true f),
  λ all.
      let each : All (HasTurned c.args.counts.now) c.row-row.result.now = rw c.row-row.ensures all in
      absurd (omega (arith, each c.loop-w.w-index (0, first.Outward) c.loop-w-test.true, c.if-counts-w-eq0.true)),
)

pub loop-w-preserved : goal.loop-w-preserved
loop-w-preserved c = All-more (HasTurned c.args.counts.now) c.row-row.result.now c.loop-w.w-index
    (0, first.Outward) c.loop-w-test.true c.loop-w.invariant (omega (arith, c.if-counts-w-eq0.false))

pub returns : goal.returns
returns c =
    let whole : All (HasTurned c.args.counts.now) c.row-row.result.now = subst (All (HasTurned c.args.counts.now))
    (take_all c.loop-w.w-index c.row-row.result.now c.loop-w-test.false) c.loop-w.invariant in
    (λ t. rw c.row-row.ensures at whole, λ all. refl)
