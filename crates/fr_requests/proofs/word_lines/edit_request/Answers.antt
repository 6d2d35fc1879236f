use Rattle.std.proofs.Common.{[], true, ◌∷◌, ◌≡◌}
use Rattle.json.specs.Lex.{comma}
use Rattle.fr_requests.specs.LineLexemes.{Begins, IsReadAs, edit_ends, edit_lexemes, ends_lexemes, letters_of_edit}
use Rattle.fr_requests.specs.LineLexemes.{opening, plain_brief}
use Rattle.fr_requests.specs.declared.word_lines.ShortRequest.TheVariants as brief
use Rattle.fr_requests.proofs.ByteLines.{edit_reads}
use Rattle.fr_requests.proofs.FrontTexts.{begins_more}
use Rattle.fr_requests.proofs.HandedOn.{if_then_some}
use Rattle.fr_requests.proofs.word_lines.edit_request.Goals as goal

pub returns : goal.returns
returns c =
    let letters = letters_of_edit c.args.word in
    let rest = c.args.rest.now in
    let edit = c.in_ok-edit.edit in
    let ends = comma ∷ ends_lexemes (edit_ends edit) in
    let told : c.is_only_space.result ≡ true → IsReadAs letters rest (plain_brief (brief.Edit edit)) =
    λ over line opens.
    let whole =
    begins_more _ _ _ (opening letters) ends opens
    (begins_more _ _ _ ends [] c.in_ok-edit.ensures.ends (c.is_only_space.ensures.read over)) in
    let is : Begins line (edit_lexemes edit) [] = rw c.in_ok-edit.ensures.word whole in
    edit_reads line edit c.in_ok-edit.ensures.small is in
    rw c.then_some.ensures
    (if_then_some (λ it. IsReadAs letters rest (plain_brief it)) c.is_only_space.result (brief.Edit edit) told)
