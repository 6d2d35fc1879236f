use Rattle.std.proofs.Common.{string_bytes, subst, sym}
use Rattle.fr_bytes.proofs.Results.{handed_on}
use Rattle.fr_command.specs.Faults.{IsDrawnPlayFault}
use Rattle.fr_command.specs.Plays.{IsPlayOutput}
use Rattle.fr_command.proofs.PlayEnds.{play_written, play_begun}
use Rattle.fr_command.proofs.play.play_drawn.Goals as goal

pub returns-in_err-write_out-clause-fault : goal.returns-in_err-write_out-clause-fault
returns-in_err-write_out-clause-fault g c =
    let old = g.W.Write.contents c.args.writer.now in
    let new = g.W.Write.contents c.write_out.new.writer in
    let bytes = c.in_ok-input.input.items in
    let out = string_bytes c.in_ok-text.text in
    let output : IsPlayOutput c.args.draw bytes out c.in_ok-text.count =
    rw c.deref.ensures.value at c.in_ok-text.ensures in
    let part = rw c.as_bytes.ensures.value at c.in_err-write_out.ensures.err in
    let why = IsDrawnPlayFault c.args.draw (g.R.Read.remaining c.args.reader.now)
    (g.R.Read.remaining c.read_input.new.reader) old new in
    let exit = c.from_residual-in_err-write_out in
    handed_on exit.result c.in_err-write_out.field-0.0 why exit.ensures.1
    (subst why (sym c.in_err-write_out.ensures.kind) (
      bytes,
      c.in_ok-input.ensures.ok,
      play_begun c.args.draw bytes out c.in_ok-text.count output old new part.0 part.1 part.2,
    ))

pub returns-clause-ok : goal.returns-clause-ok
returns-clause-ok g c =
    let bytes = c.in_ok-input.input.items in
    let out = string_bytes c.in_ok-text.text in
    let output : IsPlayOutput c.args.draw bytes out c.in_ok-text.count =
    rw c.deref.ensures.value at c.in_ok-text.ensures in
    let whole = rw c.as_bytes.ensures.value at c.in_ok-write_out.ensures.ok in (
      bytes,
      c.in_ok-input.ensures.ok,
      play_written c.args.draw bytes out c.in_ok-text.count output
          (g.W.Write.contents c.args.writer.now) (g.W.Write.contents c.write_out.new.writer) whole,
    )
