use Rattle.std.proofs.Common.{List, ap, arith, length, max, replicate, subst, take, take_all, ◌++◌, ◌-◌, ◌∙◌, ◌≡◌, ◌≤◌}
use Rattle.std.proofs.lemmas.Result.{IfOk-weaker}
use Rattle.fr_route.specs.Pushing.{padded}
use Rattle.fr_route.specs.Replies.{IsFromReply, answer_form, written}
use Rattle.fr_tables.specs.declared.hop.Hop.{Hop}
use Rattle.fr_tables.specs.declared.hop.Hop.TheVariants.{CutOff}
use Rattle.fr_route.proofs.Replying.{between_reply}
use Rattle.fr_route.proofs.pushing.pushes_between.Goals as goal

pub returns-clause-reply : goal.returns-clause-reply
returns-clause-reply c =
    let table = c.args.table.now in
    let wanted = c.args.wanted.now in
    let n : c.max-nodes.result ≡ max (length table) (length wanted) = c.max-nodes.ensures in
    let fits : length wanted ≤ max (length table) (length wanted) = omega arith in
    let same : c.deref.result.now ≡ padded (max (length table) (length wanted)) wanted =
    c.deref.ensures.value ∙ (c.in_ok-hops.ensures
    ∙ ((λ i. take (n i) wanted ++ replicate (n i - length wanted) CutOff)
    ∙ ap (λ (t : List Hop). t ++ replicate (max (length table) (length wanted) - length wanted) CutOff)
    (take_all (max (length table) (length wanted)) wanted fits))) in
    IfOk-weaker c.pushes_from.result _ _ (λ refused h s.
    between_reply (answer_form c.args.draft.now) table wanted (written c.pushes_from.new.draft refused) s
    (subst (λ (t : List Hop). IsFromReply (answer_form c.args.draft.now) table t
    (written c.pushes_from.new.draft refused)) same h))
    c.pushes_from.ensures.reply
