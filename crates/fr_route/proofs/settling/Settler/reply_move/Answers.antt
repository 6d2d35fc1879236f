use Rattle.std.proofs.Common.{◌≡◌, ◌∙◌, ◌<◌, None, Ok, Some, [], ap, arith, refl, subst, sym}
use Rattle.fr_graph.specs.Network.{Network}
use Rattle.fr_requests.specs.Requests.{move_dest}
use Rattle.fr_route.specs.Changes.{IsPlacedFault}
use Rattle.fr_route.specs.States.{State, IsRound}
use Rattle.fr_route.specs.Replies.{answer_form}
use Rattle.fr_route.proofs.Replying.{faulty, move_text, no_refusal, none_yet, refuses_again, revised}
use Rattle.fr_route.proofs.settling.Settler.reply_move.Goals as goal
use Rattle.fr_route.proofs.settling.Settler.reply_move.Goals.{in-Ok, in-Err}

pub returns-in_default : goal.returns-in_default
returns-in_default g c =
    none_yet _ (answer_form c.args.draft.now) c.args.session.now (move_dest c.args.dest) c.args.told.now
    c.refuse.result c.refuse.new.draft c.session.inside.router
    (sym c.session.view_is ∙ c.in_default.is) c.in_default.is refl c.refuse.ensures.refuses c.refuse.ensures.memory

pub returns : goal.returns
returns g c =
    let s : State = c.in-Some.router in
    let d = c.args.dest in
    let below : d < s.nodes = omega (arith, c.if-dest-nodes.false, c.nodes.ensures.value, c.net.ensures.nodes) in
    let here : c.args.session.now ≡ Some s = sym c.session.view_is ∙ c.in-Some.is in
    elim c.match-edit_and_report.branch [
      | in-Ok w ↦ rw (here, w.result-is, w.draft-is)
          (revised _ (answer_form c.args.draft.now) s (move_dest d) _ c.args.told.now c.edit_and_report.new.draft
          c.edit_and_report.new.router c.edit_and_report.new.told
          w.in-Ok.ensures.revised
          (λ made. (
            below,
            subst (λ (m : Network). IsRound m.nodes d m.links c.edit_and_report.new.router) made.1.1.0 made.1.1.1,
          ))
          (λ bytes is. move_text c.args.draft.now.form s d c.edit_and_report.new.router bytes is)
          (λ after is. is))
      | in-Err w ↦ rw (here, w.result-is, w.draft-is)
          (faulty _ (answer_form c.args.draft.now) (Some s) (Ok (move_dest d)) c.args.told.now w.in-Err.undone.fault []
          None w.refuse_for.result w.refuse_for.new.draft
          (Some c.edit_and_report.new.router) c.edit_and_report.new.told
          (λ refusal is. absurd
          (no_refusal s d w.in-Err.undone.at w.in-Err.undone.fault w.in-Err.ensures.revised.fault [] None refusal is))
          (λ e. subst (IsPlacedFault s [] d w.in-Err.undone.at) e w.in-Err.ensures.revised.fault)
          w.in-Err.ensures.revised.no_start (ap (λ (z : State). Some z) w.in-Err.ensures.revised.unchanged.0)
          w.in-Err.ensures.revised.unchanged.1
          (refuses_again (answer_form c.edit_and_report.new.draft) (answer_form c.args.draft.now) w.in-Err.undone.fault
          [] None w.refuse_for.result w.refuse_for.new.draft
          w.in-Err.ensures.same w.refuse_for.ensures.refuses) w.refuse_for.ensures.start)
    ]
