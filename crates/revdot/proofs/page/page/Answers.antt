use Rattle.std.proofs.Common.{string_bytes}
use Rattle.revdot.specs.Pages.{IsPage}
use Rattle.revdot.specs.Written.{IsOne}
use Rattle.revdot.proofs.OnePage.{page_unique}
use Rattle.revdot.proofs.Written.{text_begun, text_written}
use Rattle.revdot.proofs.page.page.Goals as goal

pub returns-clause-ok : goal.returns-clause-ok
returns-clause-ok g c =
    let first = c.args.first_part.now in
    let last = c.args.last_part.now in
    let bytes = c.in_ok-input.input.items in
    let out = string_bytes c.in_ok-text.text in
    let page : IsPage first last bytes out = rw c.deref.ensures.value at c.in_ok-text.ensures in
    let one : IsOne (IsPage first last) bytes out =
    record { is = page; only = λ other is. page_unique first last bytes other out is page } in
    text_written (IsPage first last) bytes out _ _ _ _ c.in_ok-input.ensures.ok one c.write_out.result
    (rw c.as_bytes.ensures.value at c.write_out.ensures.ok)

pub returns-clause-fault : goal.returns-clause-fault
returns-clause-fault g c =
    let first = c.args.first_part.now in
    let last = c.args.last_part.now in
    let bytes = c.in_ok-input.input.items in
    let out = string_bytes c.in_ok-text.text in
    let page : IsPage first last bytes out = rw c.deref.ensures.value at c.in_ok-text.ensures in
    let one : IsOne (IsPage first last) bytes out =
    record { is = page; only = λ other is. page_unique first last bytes other out is page } in
    text_begun (IsPage first last) bytes out _ _ _ _ c.in_ok-input.ensures.ok one c.write_out.result
    (rw c.as_bytes.ensures.value at c.write_out.ensures.err) c.write_out.ensures.kind
