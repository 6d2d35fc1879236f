use Rattle.std.proofs.Common.{length, refl, slice_index, subst, ℕ, ◌+◌, ◌<◌, ◌≤◌}
use Rattle.std.specs.List.{All}
use Rattle.fr_graph.proofs.TurnedNodes.{turned_below}
use Rattle.fr_ways.specs.Changes.{IsNotedTo}
use Rattle.fr_route.specs.States.{State, state_with}
use Rattle.fr_route.specs.WayNotes.{IsNext}
use Rattle.fr_route.proofs.WayNoting.{both_exist, leads_same, noting_first, noting_last, noting_more, noting_next}
use Rattle.fr_route.proofs.way_notes.WayNotes.note.Goals as goal

pub list-requires-clause-room : goal.list-requires-clause-room
list-requires-clause-room c = let (s, leads) = c.requires in leads.begun.affected

pub list-requires-clause-one_each : goal.list-requires-clause-one_each
list-requires-clause-one_each c = let (s, leads) = c.requires in leads.are.one_each

pub list-requires-clause-edits : goal.list-requires-clause-edits
list-requires-clause-edits c = let (s, leads) = c.requires in leads.ends

pub list-requires-clause-turned : goal.list-requires-clause-turned
list-requires-clause-turned c =
    let (s, leads) = c.requires in
    let counts = c.args.turns.now in
    let turned = c.nodes.result.now in
    subst (λ (n : ℕ). All (λ (x : ℕ). x < n) turned) leads.counted (turned_below counts turned c.nodes.ensures)

pub loop-read-init : goal.loop-read-init
loop-read-init c = λ s before after leads were are.
    noting_first s (state_with c.args.net.now c.args.distances.now.dest c.args.turns.now) _ c.args.distances.now before
    after _ (leads_same leads (record {
      ends = refl;
      end_ways = refl;
      room = c.list.ensures.room;
      before = refl;
      after = refl;
      nodes = c.clear.ensures.room.nodes;
      ways = c.clear.ensures.room.ways;
    })) were are c.nodes.ensures c.list.ensures.affected c.clear.ensures.none

pub note_node-requires : goal.note_node-requires
note_node-requires c =
    let (s, leads) = c.requires in
    let next : State = state_with c.args.net.now c.args.distances.now.dest c.args.turns.now in
    let both = both_exist s next c.args.edits.now c.args.distances.now c.args.self.now leads in
    let low : c.loop-read.read < length c.loop-read.self.affected.nodes =
    rw c.nodes-in-loop-read.ensures at c.loop-read-test.true in
    let is : IsNext s next c.args.edits.now c.args.distances.now both.0 both.2.0
    (slice_index c.loop-read.self.affected.nodes c.loop-read.read) c.loop-read.self =
    noting_next both.1 both.2.1 (c.loop-read.invariant s both.0 both.2.0 leads both.1 both.2.1) low in
    rw (c.counts.ensures, c.nodes-in-loop-read-2.ensures) (s, c.args.edits.now, both.0, both.2.0, is)

pub loop-read-preserved : goal.loop-read-preserved
loop-read-preserved c = λ s before after leads were are.
    let next : State = state_with c.args.net.now c.args.distances.now.dest c.args.turns.now in
    let nodes = c.loop-read.self.affected.nodes in
    let low : c.loop-read.read < length nodes = rw c.nodes-in-loop-read.ensures at c.loop-read-test.true in
    let noting = c.loop-read.invariant s before after leads were are in
    let is : IsNext s next c.args.edits.now c.args.distances.now before after (slice_index nodes c.loop-read.read)
    c.loop-read.self =
    noting_next were are noting low in
    let noted : IsNotedTo before after (slice_index nodes c.loop-read.read + 1) c.note_node.new.self.changes =
    (rw (c.counts.ensures, c.nodes-in-loop-read-2.ensures) at c.note_node.ensures.noted) s c.args.edits.now before
    after is in
    noting_more were are noting low c.note_node.ensures.same c.note_node.ensures.affected noted

pub returns : goal.returns
returns c = λ s leads.
    let next : State = state_with c.args.net.now c.args.distances.now.dest c.args.turns.now in
    let both = both_exist s next c.args.edits.now c.args.distances.now c.args.self.now leads in
    let past : length c.loop-read.self.affected.nodes ≤ c.loop-read.read =
    rw c.nodes-in-loop-read.ensures at c.loop-read-test.false in
    let noted = noting_last both.2.1 (c.loop-read.invariant s both.0 both.2.0 leads both.1 both.2.1) past in
    let phases = c.finish.ensures.phases both.0 both.2.0 noted in
    record {
      before = both.0;
      after = both.2.0;
      were = both.1;
      are = both.2.1;
      shrinks = phases.0;
      grows = phases.1;
    }
