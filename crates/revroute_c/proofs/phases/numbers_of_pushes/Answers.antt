use Rattle.std.proofs.Common.{List, ap, arith, length, map, refl, ℕ, ◌≡◌, ◌<◌, ◌∙◌}
use Rattle.std.proofs.lemmas.List.{length-map}
use Rattle.fr_ways.specs.Ways.{ways}
use Rattle.revroute_c.proofs.PushNumbers.{numbers_more}
use Rattle.revroute_c.proofs.phases.numbers_of_pushes.Goals as goal

pub loop-k-preserved : goal.loop-k-preserved
loop-k-preserved c = λ pushes are.
    let lists = c.args.list.now in
    let k = c.loop-k.k in
    let as_many : length lists.nodes.now ≡ length pushes =
    ap (λ (xs : List ℕ). length xs) are.nodes ∙ length-map pushes (λ p. p.0) in
    let low : k < length pushes = omega (arith, c.loop-k-test.true, as_many) in
    let row : c.row-ways.result.now ≡ ways (map (λ p. p.1) pushes) k = c.row-ways.ensures pushes are in
    rw (c.in_ok-extend_from_slice.ensures.items, c.in_ok-push-2.ensures.items, c.in_ok-push.ensures.items)
    (numbers_more pushes lists k c.loop-k.numbers.items c.row-ways.result.now _ _
    are low (c.loop-k.invariant pushes are) refl row (omega (arith, c.if-ways.false)))
