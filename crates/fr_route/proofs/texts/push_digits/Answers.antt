use Rattle.std.proofs.Common.{Err, List, Ok, OnOk, Result, ap, arith, decimal, if◌then◌else◌, string_bytes, sym}
use Rattle.std.proofs.Common.{ℕ, ◌++◌, ◌+◌, ◌<◌, ◌∙◌, ◌∷◌, ◌≡◌, []}
use Rattle.std.proofs.lemmas.Fmt.{decimal_digit}
use Rattle.std.specs.Result.{is_ok}
use Rattle.fr_route.proofs.texts.push_digits.Goals as goal

pub returns-then-number-lt10-clause-text : goal.returns-then-number-lt10-clause-text
returns-then-number-lt10-clause-text c =
    let n : ℕ = c.args.number in
    let low : n < 10 = c.if-number-lt10.true in
    let glyph : c.from.result ≡ 48 + n = grind arith in
    let one =
    c.push.ensures.ascii (omega (arith, low, glyph)) ∙ ap (λ digit. digit ∷ []) glyph ∙ sym (decimal_digit n low) in
    go (string_bytes c.args.line.now) n c.push.result one c.push.ensures.bytes
  where
    go : {E : Type 0} {said now : List ℕ} (line : List ℕ) (number : ℕ) (r : Result (Unit {0}) E) → said ≡ decimal number
        → now ≡ (if is_ok r then line ++ said else line) → OnOk r (now ≡ line ++ decimal number)
    go line number (Ok u) is told = told ∙ ap (λ bytes. line ++ bytes) is
    go line number (Err e) is told = tt
