use Rattle.std.proofs.Common.{Some, ap, sym, ◌∙◌, ◌≡◌}
use Rattle.serde_json.specs.Read.{read}
use Rattle.fr_requests.specs.Requests.{reading_of_value, value_of_line}
use Rattle.fr_requests.specs.Values.{view}
use Rattle.fr_requests.proofs.LineValues.{no_value, value_of_text}
use Rattle.fr_requests.proofs.read.read_value.Goals as goal

pub returns-in_default : goal.returns-in_default
returns-in_default c =
    (tt, λ _. ap reading_of_value (no_value _ (λ utf8. absurd (c.in_default.ensures.cases.0 utf8))))

pub returns : goal.returns
returns c =
    let value : value_of_line c.args.line.now ≡ Some (view c.in_ok-value.value) =
    value_of_text _ c.in-Ok.ensures.cases.1 ∙ ap read (sym c.in-Ok.ensures.cases.0) ∙ c.in_ok-value.ensures.ok in
    (rw value c.request_in.ensures.0, rw value c.request_in.ensures.1)
