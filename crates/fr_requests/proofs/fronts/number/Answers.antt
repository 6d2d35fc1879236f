use Rattle.std.proofs.Common.{List, Option, None, Some, IfSome, Bor, [], ap, arith, decimal, drop, get_or, length, refl}
use Rattle.std.proofs.Common.{sym, take, ℕ, ◌+◌, ◌++◌, ◌-◌}
use Rattle.std.proofs.Common.{◌∙◌, ◌∷◌, ◌≡◌, ◌≤◌}
use Rattle.std.proofs.lemmas.Fmt.{decimal_digit}
use Rattle.fr_requests.proofs.FoundBytes.{front_and_rest}
use Rattle.fr_requests.proofs.fronts.number.Goals as goal

pub returns-in-48 : goal.returns-in-48
returns-in-48 c =
    let text = c.args.text.now in
    let zero_digit : get_or text 0 0 ≡ 48 = grind arith in
    front_and_rest (48 ∷ []) text c.in-48.len_at_least (zero_digit, tt)
    ∙ ap (λ digits. digits ++ take (length text - 1) (drop 1 text)) (sym (decimal_digit 0 (omega arith)))

pub returns-in-49-to-57 : goal.returns-in-49-to-57
returns-in-49-to-57 c =
    let text = c.args.text.now in
    let digit = get_or text 0 0 in
    let behind = take (length text - 1) (drop 1 text) in
    let low : 49 ≤ digit = grind arith in
    let high : digit ≤ 57 = grind arith in
    let start = c.from.result in
    let glyph : digit ≡ 48 + start = omega (arith, c.from.ensures) in
    let said : text ≡ decimal start ++ behind =
    front_and_rest (digit ∷ []) text c.in-49-to-57.len_at_least (refl, tt)
    ∙ ap (λ d. d ∷ behind) glyph ∙ ap (λ digits. digits ++ behind) (sym (decimal_digit start (omega (
      arith,
      c.from.ensures,
    )))) in
    go behind (decimal start) said c.more_digits.result c.more_digits.ensures
  where
    go : {text : List ℕ} (behind digits : List ℕ) → text ≡ digits ++ behind → (found : Option (ℕ × Bor (List ℕ)))
        → IfSome found (λ next. digits ++ behind ≡ decimal next.0 ++ next.1.now)
        → IfSome found (λ next. text ≡ decimal next.0 ++ next.1.now)
    go behind digits said None told = told
    go behind digits said (Some next) told = said ∙ told
