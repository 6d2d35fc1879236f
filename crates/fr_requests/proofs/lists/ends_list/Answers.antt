use Rattle.std.proofs.Common.{[], ◌∷◌}
use Rattle.json.specs.Lex.{token}
use Rattle.json.specs.Token.{end_array}
use Rattle.fr_requests.proofs.FrontTexts.{begins_more}
use Rattle.fr_requests.proofs.lists.ends_list.Goals as goal

pub returns-in-Some : goal.returns-in-Some
returns-in-Some c over =
    begins_more _ _ _ (token end_array ∷ []) (token end_array ∷ []) c.in-Some.ensures.read (c.ends_line.ensures over)
