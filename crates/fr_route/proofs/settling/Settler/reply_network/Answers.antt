use Rattle.std.proofs.Common.{None, refl, subst, [], ◌∷◌}
use Rattle.fr_route.proofs.Replying.{faulty, new_refusal}
use Rattle.fr_route.specs.Replies.{answer_form}
use Rattle.fr_route.specs.Refusals.{IsNewFault}
use Rattle.fr_route.proofs.settling.Settler.reply_network.Goals as goal

pub returns-in-Err : goal.returns-in-Err
returns-in-Err g c =
    let n = c.args.parts.nodes in
    let d = c.args.parts.dest in
    let links = c.args.parts.links.now in
    let why = c.in-Err.ensures.refused in
    faulty _ (answer_form c.args.draft.now) c.args.session.now _ c.args.told.now c.in-Err.fault (d
    ∷ []) None c.refuse_for.result c.refuse_for.new.draft
    c.args.session.now c.args.told.now (new_refusal n d links c.in-Err.fault why)
    (λ e. subst (IsNewFault n d links) e why)
    c.in-Err.ensures.no_start refl refl c.refuse_for.ensures.refuses c.refuse_for.ensures.start
