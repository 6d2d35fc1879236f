use Rattle.std.proofs.Common.{arith, get_or, length, take, ℕ, ◌<◌}
use Rattle.std.proofs.lemmas.List.{take_more}
use Rattle.fr_tables.proofs.Rounds.{marked_more}
use Rattle.fr_tables.proofs.loops.mark_all.Goals as goal

pub loop-x-preserved : goal.loop-x-preserved
loop-x-preserved c =
    let nodes = c.args.nodes.now in
    let i : ℕ = c.loop-x.x-index in
    let x : ℕ = get_or nodes i 0 in
    let before = c.loop-x.invariant in
    let low : x < length c.loop-x.marks = omega (arith, c.requires i 0 c.loop-x-test.true, before.one_each) in
    rw (take_more nodes i 0 c.loop-x-test.true)
    (marked_more c.args.mark (take i nodes) c.args.marks.now c.loop-x.marks x low before)
