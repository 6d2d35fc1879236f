use Rattle.std.proofs.Common.{eqb-true, length, sym, ◌∙◌, ◌≡◌}
use Rattle.std.proofs.lemmas.List.{nil_from_length}
use Rattle.fr_requests.proofs.FrontTexts.{over_begins}
use Rattle.fr_requests.proofs.fronts.is_only_space.Goals as goal

pub returns-clause-bytes : goal.returns-clause-bytes
returns-clause-bytes c empty =
    let none : length c.skip_space.result.now ≡ 0 = eqb-true _ 0 (sym c.is_empty.ensures ∙ empty) in
    sym c.skip_space.ensures ∙ nil_from_length _ none

pub returns-clause-read : goal.returns-clause-read
returns-clause-read c empty =
    let none : length c.skip_space.result.now ≡ 0 = eqb-true _ 0 (sym c.is_empty.ensures ∙ empty) in
    over_begins _ (sym c.skip_space.ensures ∙ nil_from_length _ none)
