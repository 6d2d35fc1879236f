use Rattle.std.proofs.Common.{arith, get_or, inl, inr, take_all}
use Rattle.std.proofs.lemmas.Bool.{cases_lt}
use Rattle.std.proofs.lemmas.List.Elements.{All-more}
use Rattle.fr_graph.specs.Counts.{IsKept}
use Rattle.test_networks.proofs.networks.are_kept.Goals as goal

pub loop-tail-preserved : goal.loop-tail-preserved
loop-tail-preserved c =
    let counts = c.args.counts.now in
    let l = get_or c.args.links.now c.loop-tail.tail-index (0, 0) in
    let low = c.if-after-before.false in
    let high = c.if-after-before-gt1.false in
    let kept : IsKept counts l = elim (cases_lt (get_or counts l.0 0) (get_or counts l.1 0)) [
      | inl more ↦ inr (omega (arith, low, high, more))
      | inr same ↦ inl (omega (arith, low, same))
    ] in
    All-more (IsKept counts) c.args.links.now c.loop-tail.tail-index (0, 0) (omega arith) c.loop-tail.invariant kept

pub returns : goal.returns
returns c _ =
    let whole = take_all c.loop-tail.tail-index c.args.links.now c.loop-tail-test.false in
    rw whole at c.loop-tail.invariant
