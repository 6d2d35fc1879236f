use Rattle.std.proofs.Common.{List, ap, ℕ, ◌++◌, ◌∙◌}
use Rattle.std.proofs.lemmas.Result.{IfOk-weaker}
use Rattle.fr_route.specs.Json.{lists_json}
use Rattle.fr_route.proofs.json.phases_object.Goals as goal

pub returns : goal.returns
returns c = λ shrink grow are.
    IfOk-weaker c.push_phases.result _ _
    (λ _ is. is ∙ ap (λ (t : List ℕ). t ++ lists_json shrink grow) c.in_ok-begin.ensures)
    (c.push_phases.ensures.text shrink grow are)
