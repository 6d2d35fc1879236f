use Rattle.std.proofs.Common.{List, arith, drop, length, length-drop, sym, take, ℕ, ◌-◌, ◌≡◌}
use Rattle.std.proofs.lemmas.List.{take_all}
use Rattle.fr_tables.specs.Rounds.{AreMarkedAs}
use Rattle.fr_tables.specs.declared.loops.Mark.{Mark}
use Rattle.fr_tables.specs.declared.loops.Mark.TheVariants.{OffLoop, OnLoop}
use Rattle.fr_tables.proofs.Rounds.{decided_more, met_more}
use Rattle.fr_tables.proofs.loops.mark_walk.Goals as goal

-- the slice of a walk from `start` on
marked_from : (walk slice : List ℕ) (start : ℕ) (before after : List Mark) → slice ≡ walk
    → AreMarkedAs OnLoop (take (length slice - start) (drop start slice)) before after
    → AreMarkedAs OnLoop (drop start walk) before after
marked_from walk slice start before after is marked =
    let whole = take_all (length slice - start) (drop start slice) (omega (arith, length-drop start slice)) in
    rw (sym is) (rw whole at marked)

pub returns-clause-decided : goal.returns-clause-decided
returns-clause-decided c =
    let walk = c.list_walk-start.new.walk.items in
    let off : AreMarkedAs OffLoop (take c.list_walk-start.result walk) c.list_walk-start.new.marks c.mark_all.new.marks
    =
    rw c.deref.ensures.value at c.mark_all.ensures in
    decided_more c.args.table.now c.args.marks.now c.list_walk-start.new.marks c.mark_all.new.marks
    c.mark_all-2.new.marks walk c.args.x
    c.list_walk-start.result c.requires.decided c.list_walk-start.ensures.traced off
    (marked_from walk c.deref-2.result.now c.list_walk-start.result _ _ c.deref-2.ensures.value c.mark_all-2.ensures)

pub returns-clause-met : goal.returns-clause-met
returns-clause-met c =
    let walk = c.list_walk-start.new.walk.items in
    let off : AreMarkedAs OffLoop (take c.list_walk-start.result walk) c.list_walk-start.new.marks c.mark_all.new.marks
    =
    rw c.deref.ensures.value at c.mark_all.ensures in
    met_more c.args.table.now c.args.marks.now c.list_walk-start.new.marks c.mark_all.new.marks c.mark_all-2.new.marks
    walk c.args.x
    c.list_walk-start.result c.requires.decided c.list_walk-start.ensures.traced off
    (marked_from walk c.deref-2.result.now c.list_walk-start.result _ _ c.deref-2.ensures.value c.mark_all-2.ensures)
