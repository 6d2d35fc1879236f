use Rattle.std.proofs.Common.{◌≡◌, false, true, inl, inr, subst, arith}
use Rattle.std.proofs.lemmas.Bool.{cases_lt}
use Rattle.revdot.specs.Ends.{HaveEnds}
use Rattle.fr_core.specs.Legal.{CanTurn}
use Rattle.revdot.specs.Strips.{moment}
use Rattle.revdot.proofs.Sinks.{mark_at, sink, tail_is_none, no_head_is_none}
use Rattle.revdot.proofs.turns.next_to_turn.Goals as goal
use Rattle.revdot.proofs.turns.next_to_turn.Goals.{else-x-dest-via-then-x-dest+then-index+then-not-index+else-counts-place}
use Rattle.revdot.proofs.turns.next_to_turn.Goals.{else-x-dest-via-then-x-dest+then-index+else-not-index}
use Rattle.revdot.proofs.turns.next_to_turn.Goals.{else-x-dest-via-then-x-dest+else-index}
use Rattle.revdot.proofs.turns.next_to_turn.Goals.{else-x-dest-via-else-x-dest}

pub returns-then-counts-place-clause-next : goal.returns-then-counts-place-clause-next
returns-then-counts-place-clause-next c =
    let n = c.args.nodes in
    let x = c.loop-x.x in
    let tails = c.in_ok-tails.field-0.tails.items in
    let heads = c.in_ok-tails.field-0.heads.items in
    let ends : HaveEnds n tails heads c.args.links.now = c.in_ok-tails.ensures in
    let head =
    mark_at heads x n c.index.result.now true ends.heads_long c.loop-x-test.true c.index.ensures c.if-index.true in
    let no_tail =
    mark_at tails x n c.index-then-index.result.now false ends.tails_long c.loop-x-test.true c.index-then-index.ensures
    c.if-not-index.true in
    record {
      can = record {
        not_destination = c.if-x-dest.true;
        below_cap = omega (arith, c.if-counts-place.true, c.from.ensures);
        sink = sink n x tails heads c.args.links.now ends c.loop-x-test.true head no_tail;
      };
      least = c.loop-x.invariant;
    }

pub loop-x-preserved : goal.loop-x-preserved
loop-x-preserved c = λ x below can.
    let n = c.args.nodes in
    let d = c.args.dest in
    let m = moment c.args.links.now c.args.counts.now in
    let y = c.loop-x.x in
    let tails = c.in_ok-tails.field-0.tails.items in
    let heads = c.in_ok-tails.field-0.heads.items in
    let ends : HaveEnds n tails heads c.args.links.now = c.in_ok-tails.ensures in
    elim (cases_lt x c.loop-x.x) [
      | inl less ↦ c.loop-x.invariant x less can
      | inr ge ↦
          let same : x ≡ c.loop-x.x = omega (arith, below, ge) in
          let here : CanTurn n d m c.loop-x.x = subst (CanTurn n d m) same can in
          elim c.else-x-dest.branch [
            | else-x-dest-via-then-x-dest+then-index+then-not-index+else-counts-place w ↦ absurd
                (omega (arith, here.below_cap, w.if-counts-place.false, w.from.ensures))
            | else-x-dest-via-then-x-dest+then-index+else-not-index w ↦ absurd
                (tail_is_none n y tails heads c.args.links.now ends c.loop-x-test.true
                (mark_at tails y n w.index-then-index.result.now true ends.tails_long c.loop-x-test.true
                w.index-then-index.ensures w.if-not-index.false) here.sink)
            | else-x-dest-via-then-x-dest+else-index w ↦ absurd
                (no_head_is_none n y tails heads c.args.links.now ends c.loop-x-test.true
                (mark_at heads y n w.index.result.now false ends.heads_long c.loop-x-test.true w.index.ensures
                w.if-index.false) here.sink)
            | else-x-dest-via-else-x-dest w ↦ absurd (here.not_destination w.if-x-dest.false)
          ]
    ]
