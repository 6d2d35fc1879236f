use Rattle.std.proofs.Common.{drop, sym, take}
use Rattle.std.proofs.lemmas.List.{take-append-drop}
use Rattle.fr_bytes.proofs.Results.{on_err}
use Rattle.fr_bytes.proofs.output.write_out.Goals as goal

pub returns-in_err-write_whole-clause-err : goal.returns-in_err-write_whole-clause-err
returns-in_err-write_whole-clause-err g c =
    let bytes = c.args.bytes.now in
    let part = c.in_err-write_whole.ensures.err in
    on_err c.from_residual.result _ (
      take part.0 bytes,
      (drop part.0 bytes, sym (take-append-drop part.0 bytes)),
      part.1,
    )
