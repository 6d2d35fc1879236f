use Rattle.std.proofs.Common.{List, arith, get_or, length-set, set, subst, sym, true, ℕ, ◌∙◌}
use Rattle.std.proofs.lemmas.List.{take_all, take_more}
use Rattle.fr_ways.specs.Plans.{AreNoted}
use Rattle.fr_ways.proofs.NotedWays.{noted_more, noted_skip}
use Rattle.fr_ways.proofs.kept_ways.note_ways.Goals as goal
use Rattle.fr_ways.proofs.kept_ways.note_ways.Goals.{then-y-noted, else-y-noted}

pub loop-y-preserved : goal.loop-y-preserved
loop-y-preserved c =
    let ways = c.args.ways.now in
    let noted = c.loop-y.noted in
    let i : ℕ = c.loop-y.y-index in
    let y : ℕ = get_or ways i 0 in
    let before = c.loop-y.invariant in
    elim c.if-y-noted.branch [
      | then-y-noted w ↦ rw w.noted-is (record {
        one_each = length-set noted y true ∙ before.one_each;
        noted = subst (λ (ys : List ℕ). AreNoted ys (set noted y true))
            (sym (take_more ways i 0 c.loop-y-test.true)) (noted_more _ noted y before.noted);
      })
      | else-y-noted w ↦ rw w.noted-is (record {
        one_each = before.one_each;
        noted = subst (λ (ys : List ℕ). AreNoted ys noted) (sym (take_more ways i 0 c.loop-y-test.true))
            (noted_skip _ noted y (omega (arith, w.if-y-noted)) before.noted);
      })
    ]

pub returns-clause-noted : goal.returns-clause-noted
returns-clause-noted c = subst (λ (ys : List ℕ). AreNoted ys c.loop-y.noted)
    (take_all c.loop-y.y-index c.args.ways.now (omega (arith, c.loop-y-test.false))) c.loop-y.invariant.noted
