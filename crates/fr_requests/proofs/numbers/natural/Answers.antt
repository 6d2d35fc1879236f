use Rattle.std.proofs.Common.{ap, option_and_then, sym, ◌∙◌, false}
use Rattle.serde_json.specs.Find.{as_u64}
use Rattle.serde_json.specs.Read.{number_from, number_of}
use Rattle.fr_requests.proofs.Naturals.{no_natural, unsigned_number}
use Rattle.fr_requests.proofs.numbers.natural.Goals as goal

pub returns-then-has_minus : goal.returns-then-has_minus
returns-then-has_minus c =
    no_natural c.as_bytes-number.result.now (sym c.if-has_minus.ensures.value)
    ∙ ap (λ t. option_and_then as_u64 (number_of t)) c.as_bytes-number.ensures.value

pub returns : goal.returns
returns c =
    let s = c.as_bytes-number.result.now in
    c.unsigned_natural.ensures ∙ ap (λ p. option_and_then as_u64 (number_from false p)) c.scan.ensures.parts
    ∙ ap (option_and_then as_u64) (sym (unsigned_number s (sym c.if-has_minus.ensures.value)))
    ∙ ap (λ t. option_and_then as_u64 (number_of t)) c.as_bytes-number.ensures.value
