use Rattle.std.proofs.Common.{[], ap, ◌++◌, ◌∙◌, ◌∷◌, List, ℕ}
use Rattle.fr_route.proofs.Touched.{ends_more}
use Rattle.fr_route.proofs.outcome.push_ends.Goals as goal

pub loop-edit-preserved : goal.loop-edit-preserved
loop-edit-preserved c =
    c.in_ok-push-2.ensures.items
    ∙ (ap (λ (nodes : List ℕ). nodes ++ c.ends_of_edit-u.result.1 ∷ []) c.in_ok-push.ensures.items
    ∙ ends_more c.args.edits.now c.loop-edit.edit-index _ c.args.nodes.now.items c.loop-edit.nodes.items
    c.ends_of_edit-u.result.0 c.ends_of_edit-u.result.1 c.loop-edit-test.true c.ends_of_edit-u.ensures
    c.loop-edit.invariant)
