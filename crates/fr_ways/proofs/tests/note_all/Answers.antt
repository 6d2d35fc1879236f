use Rattle.std.proofs.Common.{arith, length, sym, ◌∙◌, ◌≡◌, ◌+◌, ◌≤◌}
use Rattle.std.specs.Prelude.{bytes_eq}
use Rattle.std.proofs.lemmas.Bool.{not-false}
use lib.Pointwise.{bytes_decides}
use Rattle.fr_ways.specs.Changes.{MayNote}
use Rattle.fr_ways.proofs.Changing.{noted_same}
use Rattle.fr_ways.proofs.tests.note_all.Goals as goal
use Rattle.fr_ways.proofs.tests.note_all.Goals.{then-ne, else-ne}

pub loop-x-preserved : goal.loop-x-preserved
loop-x-preserved c =
    let old = c.args.old.now in
    let new = c.args.new.now in
    let was = c.row-was.result.now in
    let now = c.row-now.result.now in
    let inv = c.loop-x.invariant in
    let up : c.loop-x.x + 1 ≤ length new = omega (arith, c.loop-x-test.true, c.len-x-end.ensures) in
    let may : MayNote old new c.loop-x.x was now c.loop-x.changes = record {
      below = inv.noted;
      ways_before = sym c.row-was.ensures;
      ways_after = sym c.row-now.ensures;
      inside = omega (arith, up);
      range = c.requires.range;
      room = inv.room;
    } in
    elim c.if-ne.branch [
      | then-ne w ↦ rw w.changes-is (record {
        low = up;
        noted = w.note.ensures.noted old new may;
        room = record {
          nodes = omega (arith, inv.room.nodes, w.note.ensures.room.nodes);
          ways = omega (arith, inv.room.ways, w.note.ensures.room.ways);
        };
      })
      | else-ne w ↦
          let same : was ≡ now = (bytes_decides was now).0
          (not-false (bytes_eq was now) (sym c.ne.ensures ∙ w.if-ne.false)) in
          rw w.changes-is (record {
            low = up;
            noted = noted_same old new c.loop-x.x c.loop-x.changes
                (may.ways_before ∙ (same ∙ sym may.ways_after)) inv.noted;
            room = inv.room;
          })
    ]
