use Rattle.std.proofs.Common.{List, ap, arith, length, take, vec_len, ℕ, ◌∙◌, ◌≡◌}
use Rattle.std.proofs.lemmas.List.{with_items_is}
use Rattle.std.proofs.lemmas.List.Sorted.{searched}
use Rattle.fr_graph.specs.declared.edit.Edit.{Edit}
use Rattle.fr_nearest.specs.Ways.{AreWays}
use Rattle.fr_ways.specs.Changes.{MayNote}
use Rattle.fr_route.specs.States.{State, state_with}
use Rattle.fr_route.specs.WayNotes.{IsNext}
use Rattle.fr_route.proofs.WayNoting.{may_note_end, may_note_other, not_found}
use Rattle.fr_route.proofs.way_notes.WayNotes.note_node.Goals as goal
use Rattle.fr_route.proofs.way_notes.WayNotes.note_node.Goals.{After-deref, After-deref-in-Err, After-row}

-- the ways after the change
new_ways : (c : After-deref) → AreWays c.args.net.now.links c.args.distances.now.dest c.args.x
    (take c.write_ways-count.result c.deref.result.now)
new_ways c =
    let after = c.args.self.now.after in
    let written = c.write_ways-count.new.space in
    let long : length written ≡ vec_len after =
    omega (arith, c.write_ways-count.ensures.same, ap length c.deref_mut.ensures.value, after.ok.0) in
    rw (c.deref.ensures.value ∙ with_items_is after written long) c.write_ways-count.ensures.ways

-- an end of an edit
end_noted : (c : After-row) → (s : State) (edits : List Edit) (before after : List (List ℕ))
    → IsNext s (state_with c.args.net.now c.args.distances.now.dest c.args.counts.now) edits c.args.distances.now before
    after c.args.x c.args.self.now
    → AreWays c.args.net.now.links c.args.distances.now.dest c.args.x (take c.write_ways-count.result c.deref.result.now)
    → MayNote before after c.args.x c.row.result.now (take c.write_ways-count.result c.deref.result.now)
    c.args.self.now.changes
end_noted c s edits before after is ways =
    let at = rw c.in-Ok.is at (searched c.args.self.now.ends.items c.args.x c.binary_search.result
    (rw c.deref-2.ensures.value at c.binary_search.ensures.position) is.leads.begun.ends.sorted) in
    rw c.row.ensures
    (may_note_end s (state_with c.args.net.now c.args.distances.now.dest c.args.counts.now) edits c.args.distances.now
    before after c.args.x c.args.self.now is c.in-Ok.place (take c.write_ways-count.result c.deref.result.now) at.0 at.1
    ways)

-- any other node
other_noted : (c : After-deref-in-Err) → (s : State) (edits : List Edit) (before after : List (List ℕ))
    → IsNext s (state_with c.args.net.now c.args.distances.now.dest c.args.counts.now) edits c.args.distances.now before
    after c.args.x c.args.self.now
    → AreWays c.args.net.now.links c.args.distances.now.dest c.args.x (take c.write_ways-count.result c.deref.result.now)
    → MayNote before after c.args.x (take c.write_ways_before-had.result c.deref-in-Err.result.now)
    (take c.write_ways-count.result c.deref.result.now) c.args.self.now.changes
other_noted c s edits before after is ways =
    let notes = c.args.self.now in
    let ends = notes.ends.items in
    let missed = rw c.in-Err.is at (searched ends c.args.x c.binary_search.result
    (rw c.deref-2.ensures.value at c.binary_search.ensures.position) is.leads.begun.ends.sorted) in
    let written = c.write_ways_before-had.new.space in
    let long : length written ≡ vec_len notes.before =
    omega (arith, c.write_ways_before-had.ensures.same, ap length c.deref_mut-in-Err.ensures.value, notes.before.ok.0) in
    may_note_other s (state_with c.args.net.now c.args.distances.now.dest c.args.counts.now) edits c.args.distances.now
    before after c.args.x notes is (take c.write_ways_before-had.result c.deref-in-Err.result.now)
    (take c.write_ways-count.result c.deref.result.now) (not_found ends c.args.x c.in-Err.field-0 missed.1 missed.2)
    (λ had. rw (c.deref-in-Err.ensures.value ∙ with_items_is notes.before written long)
    (c.write_ways_before-had.ensures.ways s.links s.dest is.leads.were had))
    ways

pub overflow_cast-place : goal.overflow_cast-place
overflow_cast-place c =
    let (s, edits, before, after, is) = c.requires in
    let at = rw c.in-Ok.is at (searched c.args.self.now.ends.items c.args.x c.binary_search.result
    (rw c.deref-2.ensures.value at c.binary_search.ensures.position) is.leads.begun.ends.sorted) in
    omega (arith, at.0, is.leads.begun.ends.few, is.leads.begun.few)

pub note-requires : goal.note-requires
note-requires c =
    let (s, edits, before, after, is) = c.requires in
    let at = goal.at.note-requires c in
    (before, after, end_noted at.After-row s edits before after is (new_ways at.After-deref))

pub note-requires-in-Err : goal.note-requires-in-Err
note-requires-in-Err c =
    let (s, edits, before, after, is) = c.requires in
    let at = goal.at.note-requires-in-Err c in
    (before, after, other_noted at.After-deref-in-Err s edits before after is (new_ways at.After-deref))

pub returns-in-Ok-clause-noted : goal.returns-in-Ok-clause-noted
returns-in-Ok-clause-noted c = λ s edits before after is.
    let at = goal.at.returns-in-Ok-clause-noted c in
    c.note.ensures.noted before after (end_noted at.After-row s edits before after is (new_ways at.After-deref))

pub returns-in-Err-clause-noted : goal.returns-in-Err-clause-noted
returns-in-Err-clause-noted c = λ s edits before after is.
    let at = goal.at.returns-in-Err-clause-noted c in
    c.note-in-Err.ensures.noted before after
    (other_noted at.After-deref-in-Err s edits before after is (new_ways at.After-deref))
