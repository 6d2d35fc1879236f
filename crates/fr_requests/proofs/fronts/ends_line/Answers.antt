use Rattle.std.proofs.Common.{[], ◌∷◌}
use Rattle.json.specs.Lex.{operator_lexeme}
use Rattle.fr_requests.proofs.FrontTexts.{begins_more}
use Rattle.fr_requests.proofs.fronts.ends_line.Goals as goal

pub returns-in-Some : goal.returns-in-Some
returns-in-Some c over =
    begins_more _ _ _ (operator_lexeme c.args.mark ∷ []) [] c.in-Some.ensures.read (c.is_only_space.ensures.read over)
