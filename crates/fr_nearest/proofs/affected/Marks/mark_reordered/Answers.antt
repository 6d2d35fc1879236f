use Rattle.std.proofs.Common.{arith, false, get_or, length, sym, ◌∙◌, ◌<◌, ◌≡◌}
use Rattle.std.proofs.lemmas.List.{get_or_read}
use Rattle.fr_nearest.specs.Marks.{IsMoved, StaysInOrder}
use Rattle.fr_nearest.proofs.Marking.{marked_as, marked_none}
use Rattle.fr_nearest.proofs.affected.Marks.mark_reordered.Goals as goal
use Rattle.fr_nearest.proofs.affected.Marks.mark_reordered.Goals.{else-not-index-via-then-not-index+else-not-keeps_order}
use Rattle.fr_nearest.proofs.affected.Marks.mark_reordered.Goals.{else-not-index-via-else-not-index}

pub returns-then-not-keeps_order : goal.returns-then-not-keeps_order
returns-then-not-keeps_order c =
    let m = c.args.distances.now in
    marked_as (IsMoved c.args.net.now.links m.before m.table c.args.y c.args.w) (λ z. z ≡ c.args.y) (λ z is. is.0)
    (λ z is. is) c.mark.ensures

pub returns-else-not-index : goal.returns-else-not-index
returns-else-not-index c =
    let was = c.args.self.now in
    let m = c.args.distances.now in
    let y = c.args.y in
    let low : y < length was.marked.items = omega (arith, c.requires.room, c.requires.nodes.0) in
    let read : c.index.result.now ≡ get_or was.marked.items y false =
    get_or_read was.marked.items y c.index.result.now low c.index.ensures false in
    marked_none (IsMoved c.args.net.now.links m.before m.table y c.args.w) (λ z. z ≡ y) c.requires.marks (λ z is.
    elim c.else-not-index.branch [
      | else-not-index-via-then-not-index+else-not-keeps_order w ↦
          let moved : ¬ StaysInOrder c.args.net.now.links m.before m.table y c.args.w = rw is.0 at is.1 in
          absurd (moved (w.keeps_order.ensures w.if-not-keeps_order.false))
      | else-not-index-via-else-not-index w ↦
          rw is.0 ((c.requires.marks.same y).0 (sym read ∙ w.if-not-index.false))
    ])
