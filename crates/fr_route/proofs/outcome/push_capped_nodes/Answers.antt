use Rattle.std.proofs.Common.{Bool, List, append-nil, arith, eq-eqb, false, ne_eqb, slice_index, sym, true, ℕ, ◌==◌}
use Rattle.std.proofs.Common.{◌∙◌}
use Rattle.fr_route.proofs.CutNodes.{filtered_more}
use Rattle.fr_route.proofs.outcome.push_capped_nodes.Goals as goal
use Rattle.fr_route.proofs.outcome.push_capped_nodes.Goals.{then-counts-x+in_ok-push, else-counts-x}

pub loop-x-preserved : goal.loop-x-preserved
loop-x-preserved c =
    let counts : List ℕ = c.args.counts.now in
    let nodes = c.args.nodes in
    let x = c.loop-x.x in
    let capped : ℕ → Bool = λ y. slice_index counts y == nodes in
    let before : List ℕ = c.args.capped.now.items in
    let now : List ℕ = c.loop-x.capped.items in
    elim c.if-counts-x.branch [
      | then-counts-x+in_ok-push w ↦ rw w.capped-is (w.in_ok-push.ensures.items
          ∙ filtered_more capped x true before now
          (eq-eqb (slice_index counts x) nodes (omega (arith, w.if-counts-x.true, c.from-cap.ensures)))
          c.loop-x.invariant)
      | else-counts-x w ↦ rw w.capped-is (sym (append-nil now)
          ∙ filtered_more capped x false before now
          (ne_eqb (slice_index counts x) nodes (λ e. w.if-counts-x.false (omega (arith, e, c.from-cap.ensures))))
          c.loop-x.invariant)
    ]
