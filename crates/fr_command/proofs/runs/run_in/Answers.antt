use Rattle.std.proofs.Common.{subst, sym}
use Rattle.fr_bytes.proofs.Results.{handed_on}
use Rattle.fr_command.specs.Faults.{IsRunFaultIn}
use Rattle.fr_command.specs.Outputs.{WritesOutputIn}
use Rattle.fr_command.specs.InLines.{IsAnsweringFault}
use Rattle.fr_command.proofs.Progress.{output_begins, flushed, run_failed}
use Rattle.fr_command.proofs.runs.run_in.Goals as goal

pub returns-in_err-tally-clause-fault : goal.returns-in_err-tally-clause-fault
returns-in_err-tally-clause-fault g c =
    let bytes = c.in_ok-input.input.items in
    let r = g.R.Read.remaining c.args.reader.now in
    let s = g.R.Read.remaining c.read_input.new.reader in
    let old = g.W.Write.contents c.args.writer.now in
    let new = g.W.Write.contents c.answer_all.new.writer in
    let fault = c.in_err-tally.field-0.0 in
    let why : IsAnsweringFault c.args.form bytes old new fault =
    rw c.deref.ensures.value at c.in_err-tally.ensures.fault in
    let exit = c.from_residual-in_err-tally in
    handed_on exit.result fault (IsRunFaultIn c.args.form r s old new) exit.ensures.1
    (run_failed c.args.form bytes r s old new fault c.in_ok-input.ensures.ok why)

pub returns-in_err-flush-clause-fault : goal.returns-in_err-flush-clause-fault
returns-in_err-flush-clause-fault g c =
    let bytes = c.in_ok-input.input.items in
    let old = g.W.Write.contents c.args.writer.now in
    let mid = g.W.Write.contents c.answer_all.new.writer in
    let new = g.W.Write.contents c.flush.new.writer in
    let made : WritesOutputIn c.args.form bytes old mid c.in_ok-tally.tally =
    rw c.deref.ensures.value at c.in_ok-tally.ensures.ok in
    let why = IsRunFaultIn c.args.form (g.R.Read.remaining c.args.reader.now)
    (g.R.Read.remaining c.read_input.new.reader) old new in
    let exit = c.from_residual-in_err-flush in
    handed_on exit.result c.in_err-flush.field-0.0 why exit.ensures.1
    (subst why (sym c.in_err-flush.ensures.kind) (
      bytes,
      c.in_ok-input.ensures.ok,
      output_begins c.args.form bytes old mid new c.in_ok-tally.tally made c.flush.ensures.kept,
    ))

pub returns-clause-ok : goal.returns-clause-ok
returns-clause-ok g c =
    let bytes = c.in_ok-input.input.items in
    let old = g.W.Write.contents c.args.writer.now in
    let mid = g.W.Write.contents c.answer_all.new.writer in
    let new = g.W.Write.contents c.flush.new.writer in
    let made : WritesOutputIn c.args.form bytes old mid c.in_ok-tally.tally =
    rw c.deref.ensures.value at c.in_ok-tally.ensures.ok in (
      bytes,
      c.in_ok-input.ensures.ok,
      flushed c.args.form bytes old mid new c.in_ok-tally.tally made c.flush.ensures.kept,
    )
