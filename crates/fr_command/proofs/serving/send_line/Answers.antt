use Rattle.std.proofs.Common.{◌++◌, ◌∷◌, [], List, ℕ, take}
use Rattle.std.proofs.lemmas.Result.{on_err_weaker, on_ok_weaker}
use Rattle.fr_bytes.specs.Streams.{Writes}
use Rattle.fr_bytes.proofs.Results.{on_err}
use Rattle.fr_bytes.proofs.Traffics.{writes_on}
use Rattle.fr_command.proofs.Served.{text_begun, end_begun}
use Rattle.fr_command.proofs.serving.send_line.Goals as goal

pub returns-in_err-send_whole-clause-err : goal.returns-in_err-send_whole-clause-err
returns-in_err-send_whole-clause-err g c =
    let line : List ℕ = c.args.line.now in
    let part = c.in_err-send_whole.ensures.err in
    on_err c.from_residual.result _ (take part.0 line, text_begun line (10 ∷ []) part.0, part.1)

pub returns-clause-err : goal.returns-clause-err
returns-clause-err g c =
    let line : List ℕ = c.args.line.now in
    let old = g.S.Stream.traffic c.args.stream.now in
    let mid = g.S.Stream.traffic c.send_whole.new.stream in
    let new = g.S.Stream.traffic c.send_whole-2.new.stream in
    on_err_weaker c.send_whole-2.result
    (λ (part : (n : ℕ) × Writes mid new (take n (10 ∷ []))). (
      line ++ take part.0 (10 ∷ []),
      end_begun line (10 ∷ []) part.0,
      writes_on old mid new line (take part.0 (10 ∷ [])) c.in_ok-send_whole.ensures.ok part.1,
    ))
    c.send_whole-2.ensures.err

pub returns-clause-ok : goal.returns-clause-ok
returns-clause-ok g c =
    let old = g.S.Stream.traffic c.args.stream.now in
    let mid = g.S.Stream.traffic c.send_whole.new.stream in
    let new = g.S.Stream.traffic c.send_whole-2.new.stream in
    on_ok_weaker c.send_whole-2.result
    (λ (end : Writes mid new (10 ∷ [])).
    writes_on old mid new c.args.line.now (10 ∷ []) c.in_ok-send_whole.ensures.ok end)
    c.send_whole-2.ensures.ok
