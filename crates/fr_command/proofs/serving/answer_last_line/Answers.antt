use Rattle.std.proofs.Common.{List, ℕ, append-nil, [], subst, sym}
use Rattle.std.proofs.KnownBytes.{Appends-trans}
use Rattle.std.specs.Io.KnownBytes.{Appends}
use Rattle.fr_bytes.proofs.Results.{handed_on}
use Rattle.fr_command.specs.Conversations.{point_of, text_of}
use Rattle.fr_command.specs.InLines.{IsLineFault}
use Rattle.fr_command.proofs.Served.{ends_begun}
use Rattle.fr_command.proofs.serving.answer_last_line.Goals as goal

pub returns-in_err-flush-clause-fault : goal.returns-in_err-flush-clause-fault
returns-in_err-flush-clause-fault g c =
    let talk = c.args.conversation.now in
    let old = g.S.Stream.traffic c.args.stream.now in
    let mid = g.S.Stream.traffic c.send_answer.new.stream in
    let new = g.S.Stream.traffic c.flush.new.self in
    let text : List ℕ = text_of c.in_ok-answer.answer in
    let written = subst (λ (bytes : List ℕ). Appends old.written new.written bytes) (append-nil text)
    (Appends-trans old.written mid.written new.written text [] c.in_ok-send_answer.ensures.ok.1
    c.in_err-flush.ensures.err.1) in
    let why = IsLineFault talk.form (point_of talk) talk.begun old.written new.written in
    let exit = c.from_residual-in_err-flush in
    handed_on exit.result c.in_err-flush.field-0.0 why exit.ensures.1 (subst why (sym c.in_err-flush.ensures.kind)
    (ends_begun talk c.end_line.new.self text text old.written new.written c.in_ok-answer.ensures.ends
    ([], sym (append-nil text)) written))
