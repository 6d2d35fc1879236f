use Rattle.std.proofs.Common.{ap, arith, drop, get_or, length, length-drop, set, sym, take, ℕ, ◌++◌, ◌+◌, ◌-◌, ◌<◌, ◌∙◌}
use Rattle.std.proofs.Common.{◌≡◌}
use Rattle.std.proofs.lemmas.List.{get_or-drop}
use Rattle.fr_graph.specs.declared.first.First.{First}
use Rattle.fr_graph.specs.declared.first.First.TheVariants.{Outward}
use Rattle.fr_graph.proofs.Lists.{shifted_more, shifted_rest}
use Rattle.fr_graph.proofs.row_table.remove_from_front.Goals as goal

pub loop-place-preserved : goal.loop-place-preserved
loop-place-preserved c =
    let old = c.args.entries.now in
    let d : ℕ × First = (0, Outward) in
    let i = c.loop-place.place - 1 in
    let now = take i (drop 1 old) ++ drop i old in
    let low = c.loop-place.invariant.some in
    let inside = c.loop-place-test.true in
    let next : c.loop-place.place + 1 - 1 ≡ i + 1 = omega (arith, low) in
    let there : 1 + i ≡ c.loop-place.place = omega (arith, low) in
    let rest : i < length (drop 1 old) = omega (arith, length-drop 1 old, low, inside) in
    let read : get_or now c.loop-place.place d ≡ get_or (drop 1 old) i d =
    shifted_rest old (drop 1 old) i c.loop-place.place d (omega (arith, rest)) (omega arith)
    ∙ ap (λ k. get_or old k d) (sym there) ∙ sym (get_or-drop 1 old i d) in
    record {
      some = omega arith;
      written =
          rw (c.loop-place.invariant.written, next) (ap (set now i) read ∙ shifted_more old (drop 1 old) i d (omega (
            arith,
            low,
            inside,
          )) rest);
    }
