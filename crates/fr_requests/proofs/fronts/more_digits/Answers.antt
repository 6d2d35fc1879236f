use Rattle.std.proofs.Common.{[], ap, arith, decimal, get_or, refl, ◌*◌, ◌+◌, ◌++◌, ◌-◌, ◌<◌, ◌∙◌, ◌∷◌, ◌≡◌, ◌≤◌, ◌^◌}
use Rattle.fr_requests.proofs.FoundBytes.{front_and_rest, one_digit_more}
use Rattle.fr_requests.proofs.fronts.more_digits.Goals as goal

pub more-preserved : goal.more-preserved
more-preserved c =
    let n = c.more.number in
    let rest = c.more.rest.now in
    let digit = get_or rest 0 0 in
    let m = n * 10 + c.from.result in
    let low : 48 ≤ digit = grind arith in
    let high : digit ≤ 57 = grind arith in
    let is : m ≡ n * 10 + (digit - 48) = ap (λ d. n * 10 + d) c.from.ensures in
    let small : m < 2 ^ 40 = omega (arith, is, high, c.if-number-gt-TENTH.false) in (
      omega (arith, c.more.invariant),
      small,
      c.more.invariant.2 ∙ ap (λ bytes. decimal n ++ bytes)
          (front_and_rest (digit ∷ []) rest c.in-48-to-57.len_at_least (refl, tt))
          ∙ one_digit_more n digit m _ is c.more.invariant.0 low high (omega arith),
    )
