use Rattle.std.proofs.Common.{arith, length, suc, ◌+◌, ◌<◌, ◌∙◌, ◌∷◌, ◌≡◌}
use Rattle.std.proofs.lemmas.List.{get_or_default}
use Rattle.fr_graph.proofs.Lists.{shifted_more, shifted_rest}
use Rattle.fr_graph.proofs.row_table.insert_at_front.Goals as goal

pub loop-here-preserved : goal.loop-here-preserved
loop-here-preserved c =
    let old = c.args.entries.now in
    let e = c.args.entry in
    let i = c.loop-here.here-index in
    let inside : i < length old = c.loop-here-test.true in
    let next : i + 1 ≡ suc i = omega arith in
    record {
      written =
          rw (c.loop-here.invariant.written, c.loop-here.invariant.carried) (shifted_more old (e
          ∷ old) i e inside (omega arith));
      carried =
          rw (c.loop-here.invariant.written, next) (shifted_rest old (e ∷ old) i i _ (omega arith) (omega arith)
          ∙ get_or_default old i _ e inside);
    }
