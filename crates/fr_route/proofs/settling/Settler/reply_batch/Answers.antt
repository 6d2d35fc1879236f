use Rattle.std.proofs.Common.{◌≡◌, ◌∙◌, Ok, Some, ap, refl, subst, sym, ℕ}
use Rattle.fr_requests.specs.Requests.{make_edits}
use Rattle.fr_route.specs.Changes.{IsPlacedFault}
use Rattle.fr_route.specs.Outcomes.{IsEdited}
use Rattle.fr_route.specs.States.{State}
use Rattle.fr_route.specs.declared.fault.RouteFault.TheVariants.{Start}
use Rattle.fr_route.specs.Replies.{answer_form}
use Rattle.fr_route.proofs.Replying.{batch_refusal, batch_text, faulty, none_yet, refuses_again, revised}
use Rattle.fr_route.proofs.settling.Settler.reply_batch.Goals as goal
use Rattle.fr_route.proofs.settling.Settler.reply_batch.Goals.{in-Ok, in-Err}

pub returns-in_default : goal.returns-in_default
returns-in_default g c =
    none_yet _ (answer_form c.args.draft.now) c.args.session.now (make_edits c.args.edits.now) c.args.told.now
    c.refuse.result c.refuse.new.draft c.session.inside.router
    (sym c.session.view_is ∙ c.in_default.is) c.in_default.is refl c.refuse.ensures.refuses c.refuse.ensures.memory

pub returns : goal.returns
returns g c =
    let s : State = c.in-Some.router in
    let edits = c.args.edits.now in
    let here : c.args.session.now ≡ Some s = sym c.session.view_is ∙ c.in-Some.is in
    elim c.match-edit_and_report.branch [
      | in-Ok w ↦ rw (here, w.result-is, w.draft-is)
          (revised _ (answer_form c.args.draft.now) s (make_edits edits) _ c.args.told.now c.edit_and_report.new.draft
          c.edit_and_report.new.router c.edit_and_report.new.told
          w.in-Ok.ensures.revised
          (λ made. subst (λ (d : ℕ). IsEdited s edits d c.edit_and_report.new.router) c.dest-dest.ensures.value made)
          (λ bytes is. batch_text c.args.draft.now.form s edits c.edit_and_report.new.router bytes is)
          (λ after is. is))
      | in-Err w ↦ rw (here, w.result-is, w.draft-is)
          (faulty _ (answer_form c.args.draft.now) (Some s) (Ok (make_edits edits)) c.args.told.now
          w.in-Err.undone.fault w.ends_of_edit_at.result (Some w.in-Err.undone.at) w.refuse_for.result
          w.refuse_for.new.draft
          (Some c.edit_and_report.new.router) c.edit_and_report.new.told
          (λ refusal is. batch_refusal s edits c.dest-dest.result w.in-Err.undone.at w.in-Err.undone.fault
          w.in-Err.ensures.revised.fault w.ends_of_edit_at.result w.ends_of_edit_at.ensures refusal is)
          (λ e. subst (λ (d : ℕ). IsPlacedFault s edits d w.in-Err.undone.at Start) c.dest-dest.ensures.value
          (subst (IsPlacedFault s edits c.dest-dest.result w.in-Err.undone.at) e w.in-Err.ensures.revised.fault))
          w.in-Err.ensures.revised.no_start (ap (λ (z : State). Some z) w.in-Err.ensures.revised.unchanged.0)
          w.in-Err.ensures.revised.unchanged.1
          (refuses_again (answer_form c.edit_and_report.new.draft) (answer_form c.args.draft.now) w.in-Err.undone.fault
          w.ends_of_edit_at.result (Some w.in-Err.undone.at) w.refuse_for.result w.refuse_for.new.draft
          w.in-Err.ensures.same w.refuse_for.ensures.refuses) w.refuse_for.ensures.start)
    ]
