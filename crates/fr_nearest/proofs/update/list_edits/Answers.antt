use Rattle.std.proofs.Common.{List, [], arith, length, refl, subst, ◌∙◌}
use Rattle.std.proofs.lemmas.List.{take_all}
use Rattle.fr_graph.proofs.Members.{Contains-none}
use Rattle.fr_graph.specs.declared.edit.Edit.{Edit}
use Rattle.fr_nearest.specs.Update.{IsTouched, Lists}
use Rattle.fr_nearest.proofs.Listing.{edits_more, lists_none}
use Rattle.fr_nearest.proofs.update.list_edits.Goals as goal

pub loop-edit-init : goal.loop-edit-init
loop-edit-init c = record {
  lists = lists_none c.args.event (IsTouched c.args.event []) (λ x w h. Contains-none h.0 h.1) c.requires.listed;
  room = refl;
}

pub loop-edit-preserved : goal.loop-edit-preserved
loop-edit-preserved c =
    let inv = c.loop-edit.invariant in
    record {
      lists = edits_more c.args.edits.now c.loop-edit.edit-index _ c.loop-edit-test.true inv.lists
          (c.list_edit_ends.ensures.listed c.if-not-list_edit_ends.false);
      room = c.list_edit_ends.ensures.room ∙ inv.room;
    }

pub returns-clause-listed : goal.returns-clause-listed
returns-clause-listed c =
    let n = length c.args.distances.now in
    let table = c.args.distances.now in
    let event = c.args.event in
    let all = take_all c.loop-edit.edit-index c.args.edits.now (omega (arith, c.loop-edit-test.false)) in
    λ _. subst (λ (es : List Edit). Lists n table event (IsTouched event es) c.args.list.now.items
    c.loop-edit.list.items) all c.loop-edit.invariant.lists
