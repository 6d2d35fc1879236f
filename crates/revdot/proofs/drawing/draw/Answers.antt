use Rattle.std.proofs.Common.{string_bytes}
use Rattle.revdot.specs.Drawings.{IsDrawing}
use Rattle.revdot.specs.Written.{IsOne}
use Rattle.revdot.proofs.OneDrawing.{drawing_unique}
use Rattle.revdot.proofs.Written.{text_begun, text_written}
use Rattle.revdot.proofs.drawing.draw.Goals as goal

pub returns-clause-ok : goal.returns-clause-ok
returns-clause-ok g c =
    let picture = c.args.picture in
    let towards = c.args.direction in
    let bytes = c.in_ok-input.input.items in
    let out = string_bytes c.in_ok-text.text in
    let drawing : IsDrawing picture towards bytes out = rw c.deref.ensures.value at c.in_ok-text.ensures in
    let one : IsOne (IsDrawing picture towards) bytes out =
    record { is = drawing; only = λ other is. drawing_unique picture towards bytes other out is drawing } in
    text_written (IsDrawing picture towards) bytes out _ _ _ _ c.in_ok-input.ensures.ok one c.write_out.result
    (rw c.as_bytes.ensures.value at c.write_out.ensures.ok)

pub returns-clause-fault : goal.returns-clause-fault
returns-clause-fault g c =
    let picture = c.args.picture in
    let towards = c.args.direction in
    let bytes = c.in_ok-input.input.items in
    let out = string_bytes c.in_ok-text.text in
    let drawing : IsDrawing picture towards bytes out = rw c.deref.ensures.value at c.in_ok-text.ensures in
    let one : IsOne (IsDrawing picture towards) bytes out =
    record { is = drawing; only = λ other is. drawing_unique picture towards bytes other out is drawing } in
    text_begun (IsDrawing picture towards) bytes out _ _ _ _ c.in_ok-input.ensures.ok one c.write_out.result
    (rw c.as_bytes.ensures.value at c.write_out.ensures.err) c.write_out.ensures.kind
