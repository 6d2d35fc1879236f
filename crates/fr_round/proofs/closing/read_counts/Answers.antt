use Rattle.std.proofs.Common.{◌<◌, length, arith, sym, ◌∙◌}
use Rattle.std.specs.Slots.{slots_items}
use Rattle.fr_round.proofs.Gathering.{copied_more, copied_all}
use Rattle.fr_round.proofs.closing.read_counts.Goals as goal

pub loop-i-init : goal.loop-i-init
loop-i-init c = λ k below. absurd (omega arith)

pub loop-i-preserved : goal.loop-i-preserved
loop-i-preserved c =
    let inside : c.loop-i.i < length c.loop-i.counts = let a = c.loop-i.auto.counts in let b = c.loop-i-test.true in
    omega arith in
    copied_more c.loop-i.counts (slots_items c.args.closed.now.words) c.loop-i.i c.word.result inside c.word.ensures
    c.loop-i.invariant

pub returns : goal.returns
returns c =
    copied_all c.loop-i.counts (slots_items c.args.closed.now.words) c.loop-i.i (c.requires.long
    ∙ sym c.loop-i.auto.counts)
    (let a = c.loop-i.auto.counts in let b = c.loop-i-test.false in omega arith) c.loop-i.invariant
