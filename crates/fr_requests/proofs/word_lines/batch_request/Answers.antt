use Rattle.std.proofs.Common.{[], ◌++◌, ◌∷◌}
use Rattle.json.specs.Lex.{token}
use Rattle.json.specs.Token.{end_array}
use Rattle.fr_requests.specs.LineLexemes.{Begins, Each, HasSmallEnds, edit_lexemes, list_lexemes}
use Rattle.fr_requests.proofs.ByteLines.{batch_reads}
use Rattle.fr_requests.proofs.word_lines.batch_request.Goals as goal

pub returns-in-Some-2-clause-ok : goal.returns-in-Some-2-clause-ok
returns-in-Some-2-clause-ok c =
    let edits = c.in-Some-2.edits.items in
    let closes : Begins c.in-Some.items.now (list_lexemes edit_lexemes edits ++ token end_array ∷ []) []
    × Each HasSmallEnds edits = rw c.in-Some-2.is at c.in_ok-edits.ensures.ok in
    batch_reads _ _ edits c.in-Some.ensures closes.0 closes.1
