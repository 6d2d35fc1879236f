use Rattle.std.proofs.Common.{All, arith, get_or, refl, rules, subst, take_all, ℕ, ◌<◌, ◌≡◌}
use Rattle.std.proofs.lemmas.Bool.{false≢true}
use Rattle.std.proofs.lemmas.List.Elements.{All-more}
use Rattle.fr_core.proofs.RowLinks.{row_below}
use Rattle.fr_core.proofs.SensesByRow.{IsKeptOut, kept_by_row, kept_from_sense, row_kept, sense_from_kept}
use Rattle.fr_graph.specs.declared.first.First.{First}
use Rattle.fr_graph.specs.declared.first.First.TheVariants as first
use Rattle.fr_core.proofs.counts.has_directions_in_row.Goals as goal
use Rattle.fr_core.proofs.counts.has_directions_in_row.Goals.{else-eq-via-else-eq, else-eq-via-then-eq+else-is_none}

pub bounds-counts-w : goal.bounds-counts-w
bounds-counts-w c =
    let net = c.args.net.now in
    let below : All (λ (e : ℕ × First). e.0 < net.nodes) c.row-row.result.now =
    rw c.row-row.ensures (row_below net.nodes net.links c.args.x) in
    omega (arith, c.requires.one_each, below c.loop-w.w-index (0, first.Outward) c.loop-w-test.true)

pub returns-then-is_none : goal.returns-then-is_none
returns-then-is_none c = (
  λ f. absurd (false≢true f),
  λ kept.
      let net = c.args.net.now in
      let e : ℕ × First = get_or c.row-row.result.now c.loop-w.w-index (0, first.Outward) in
      let all : All (IsKeptOut c.args.counts.now c.args.x) c.row-row.result.now =
      rw c.row-row.ensures (row_kept net.nodes net.links c.args.counts.now c.args.x kept) in
      let out : e.1 ≡ first.Outward = search rules in
      let known =
      sense_from_kept c.args.counts.now c.args.x e.0 (all c.loop-w.w-index (0, first.Outward) c.loop-w-test.true out) in
      cc (rw c.sense.ensures at c.if-is_none.ensures, known),
)

pub loop-w-preserved : goal.loop-w-preserved
loop-w-preserved c =
    let e : ℕ × First = get_or c.row-row.result.now c.loop-w.w-index (0, first.Outward) in
    let here : IsKeptOut c.args.counts.now c.args.x e =
    elim c.else-eq.branch [
      | else-eq-via-then-eq+else-is_none w ↦ λ _. kept_from_sense c.args.counts.now c.args.x e.0
          (rw w.sense.ensures at w.if-is_none.ensures)
      | else-eq-via-else-eq w ↦ λ out. absurd (search rules)
    ] in
    All-more (IsKeptOut c.args.counts.now c.args.x) c.row-row.result.now c.loop-w.w-index (0, first.Outward)
    c.loop-w-test.true c.loop-w.invariant here

pub returns : goal.returns
returns c =
    let net = c.args.net.now in
    let whole : All (IsKeptOut c.args.counts.now c.args.x) c.row-row.result.now =
    subst (All (IsKeptOut c.args.counts.now c.args.x))
    (take_all c.loop-w.w-index c.row-row.result.now c.loop-w-test.false) c.loop-w.invariant in (
      λ t. kept_by_row net.nodes net.links c.args.counts.now c.args.x c.network_law.ensures.is_net
          (rw c.row-row.ensures at whole),
      λ all. refl,
    )
