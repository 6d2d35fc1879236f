use Rattle.std.proofs.Common.{List, ap, arith, get_or, subst, suc, sym, take, take_all, ◌+◌, ◌∙◌, ◌≡◌}
use Rattle.std.proofs.lemmas.List.{get_or_default}
use Rattle.fr_graph.proofs.Batches.{all_made_one, made_next}
use Rattle.fr_graph.proofs.Remaking.{graph_of_rows, shown_of_rows, with_links}
use Rattle.fr_graph.proofs.Undoing.{more_done, still_done}
use Rattle.fr_graph.specs.Batches.{IsEditFault}
use Rattle.fr_graph.specs.Evidence.{NamesOfEdit}
use Rattle.fr_graph.specs.Graph.{AreDone, CanUndo, shown}
use Rattle.fr_graph.specs.Network.{Network}
use Rattle.fr_graph.specs.declared.graph.Effect.{Effect}
use Rattle.fr_graph.specs.declared.edit.Edit.{Edit}
use Rattle.fr_graph.proofs.graph.Graph.edit_all.Goals as goal
use Rattle.fr_graph.proofs.graph.Graph.edit_all.Goals.{In-Err}

-- the edits before the one that is refused can be undone
still : (c : In-Err) → CanUndo (shown c.args.self.now) c.loop-at.done.items c.edit.new.self
still c =
    let same = c.in-Err.ensures.unchanged in
    still_done c.loop-at.self c.edit.new.self (shown c.args.self.now) c.loop-at.done.items (shown c.edit.new.self)
    same.rooms
    (subst (λ (m : Network). AreDone c.loop-at.self (shown c.args.self.now) c.loop-at.done.items m) (sym same.same)
    c.loop-at.invariant.undo)

pub returns-in_err-give_back_room-clause-graph : goal.returns-in_err-give_back_room-clause-graph
returns-in_err-give_back_room-clause-graph c = graph_of_rows c.args.self.now c.give_back_room.new.self c.give_back_room.ensures.rows c.requires.graph

pub loop-at-init : goal.loop-at-init
loop-at-init c =
    let same =
    ap (with_links c.args.self.now.nodes) (shown_of_rows c.args.self.now c.give_back_room.new.self c.give_back_room.ensures.rows) in
    record {
      graph = graph_of_rows c.args.self.now c.give_back_room.new.self c.give_back_room.ensures.rows c.requires.graph;
      made = same;
      undo = rw (c.reserve.ensures.items ∙ c.clear.ensures.items) same;
      one_each = c.reserve.ensures.len ∙ c.clear.ensures.len;
      all_room = omega (arith, c.in_ok-reserve.ensures.ok);
    }

pub edit-requires : goal.edit-requires
edit-requires c = c.loop-at.invariant.graph

pub push_reserved-requires : goal.push_reserved-requires
push_reserved-requires c =
    omega (arith, c.loop-at.invariant.one_each, c.loop-at.invariant.all_room, c.loop-at-test.true)

pub undo_all-requires-clause-graph : goal.undo_all-requires-clause-graph
undo_all-requires-clause-graph c = c.in-Err.ensures.unchanged.graph

pub returns-in-Err-clause-graph : goal.returns-in-Err-clause-graph
returns-in-Err-clause-graph c = c.undo_all.ensures.graph

pub returns-clause-graph : goal.returns-clause-graph
returns-clause-graph c = c.loop-at.invariant.graph

pub undo_all-requires-clause-done : goal.undo_all-requires-clause-done
undo_all-requires-clause-done c = (shown c.args.self.now, still (goal.at.undo_all-requires-clause-done c).In-Err)

pub returns-in-Err-clause-refused : goal.returns-in-Err-clause-refused
returns-in-Err-clause-refused c =
    let mid = shown c.loop-at.self in
    let same = λ (d : Edit). get_or_default c.args.edits.now c.loop-at.at _ d c.loop-at-test.true in
    record {
      first = λ known. record {
        inside = c.loop-at-test.true;
        before = mid;
        made = c.loop-at.invariant.made;
        refused = λ d. subst (λ (e : Edit). IsEditFault mid e c.in-Err.fault) (same d) (c.in-Err.ensures.refused known);
      };
      names = λ before made d.
          subst (λ (m : Network). NamesOfEdit m (get_or c.args.edits.now c.loop-at.at d) c.in-Err.fault)
          (all_made_one (shown c.args.self.now) (take c.loop-at.at c.args.edits.now) mid before
          c.loop-at.invariant.made made)
          (subst (λ (e : Edit). NamesOfEdit mid e c.in-Err.fault) (same d) c.in-Err.ensures.names);
    }

pub returns-in-Err-clause-unchanged : goal.returns-in-Err-clause-unchanged
returns-in-Err-clause-unchanged c =
    c.undo_all.ensures.undone (shown c.args.self.now) (still (goal.at.returns-in-Err-clause-unchanged c).In-Err)

pub loop-at-preserved : goal.loop-at-preserved
loop-at-preserved c =
    let inv = c.loop-at.invariant in
    let at = c.loop-at.at in
    let first = shown c.args.self.now in
    let edited = c.in-Ok.ensures.ok in
    let mid = shown c.loop-at.self in
    let after = shown c.edit.new.self in
    let more : at + 1 ≡ suc at = omega arith in
    let kept = still_done c.loop-at.self c.edit.new.self first c.loop-at.done.items mid edited.rooms inv.undo in
    record {
      graph = edited.graph;
      made =
          rw more (made_next first c.args.edits.now at mid after _ (omega (arith, c.loop-at-test.true)) inv.made
          edited.made);
      undo = subst (λ (ds : List Effect). AreDone c.edit.new.self first ds after) (sym c.push_reserved.ensures.items)
          (more_done c.edit.new.self first c.loop-at.done.items mid c.in-Ok.step after kept edited.back edited.by);
      one_each = omega (arith, c.push_reserved.ensures.len, inv.one_each);
      all_room = omega (arith, c.push_reserved.ensures.capacity, inv.all_room);
    }

pub returns-clause-ok : goal.returns-clause-ok
returns-clause-ok c =
    let inv = c.loop-at.invariant in
    (rw (take_all c.loop-at.at c.args.edits.now c.loop-at-test.false) at inv.made, inv.undo)
