use Rattle.fr_requests.specs.LineLexemes.{IsReadAs, letters, plain_brief}
use Rattle.fr_requests.specs.declared.word_lines.ShortRequest.TheVariants as brief
use Rattle.fr_requests.specs.declared.words.Word.TheVariants as word
use Rattle.fr_requests.proofs.ByteLines.{question_reads}
use Rattle.fr_requests.proofs.HandedOn.{if_then_some}
use Rattle.fr_requests.proofs.word_lines.short_question.Goals as goal

pub returns : goal.returns
returns c =
    let rest = c.args.rest.now in
    let question = c.args.question in
    rw c.then_some.ensures
    (if_then_some (λ asked. IsReadAs (letters (word.Ask question)) rest (plain_brief asked)) c.ends_line.result
    (brief.Ask question) (λ over. question_reads rest question (c.ends_line.ensures over)))
