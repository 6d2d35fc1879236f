-- Bytes as a pattern finds them, and a number that grows digit by digit.
use Rattle.std.proofs.Common.{List, [], ap, append_assoc, arith, decimal, drop, get_or, length}
use Rattle.std.proofs.Common.{length-drop, sym, take, take_all, ℕ, ◌*◌, ◌+◌, ◌++◌}
use Rattle.std.proofs.Common.{◌-◌, ◌/◌, ◌%◌, ◌<◌, ◌≤◌, ◌^◌, ◌∙◌, ◌∷◌, ◌≡◌}
use Rattle.std.specs.Prelude.{⊤}
use Rattle.std.proofs.lemmas.Fmt.{decimal_step}
use Rattle.std.proofs.lemmas.List.{drop_more}

-- these bytes follow from the place k on, as a pattern finds them
abbrev pub StandFrom : ℕ → List ℕ → List ℕ → Type 0
StandFrom k [] bytes = ⊤
StandFrom k (b ∷ bs) bytes = (get_or bytes k 0 ≡ b) × StandFrom (k + 1) bs bytes

from_place : (k : ℕ) (front bytes : List ℕ) → k + length front ≤ length bytes → StandFrom k front bytes
    → drop k bytes ≡ front ++ drop (k + length front) bytes
from_place k [] bytes long h = let same : k ≡ k + 0 = omega arith in ap (λ j. drop j bytes) same
from_place k (b ∷ bs) bytes long h =
    let further : k + 1 + length bs ≡ k + length (b ∷ bs) = omega arith in
    drop_more bytes k 0 (omega arith) ∙ (λ i. h.0 i ∷ from_place (k + 1) bs bytes (omega arith) h.1 i)
    ∙ ap (λ j. b ∷ (bs ++ drop j bytes)) further

-- bytes are those at their front, and those of the pattern's `..`
pub front_and_rest : (front bytes : List ℕ) → length front ≤ length bytes → StandFrom 0 front bytes
    → bytes ≡ front ++ take (length bytes - length front) (drop (length front) bytes)
front_and_rest front bytes long h =
    let n = length front in
    let none : 0 + n ≡ n = omega arith in
    let all = take_all (length bytes - n) (drop n bytes) (omega (arith, length-drop n bytes)) in
    from_place 0 front bytes (omega arith) h ∙ ap (λ k. front ++ drop k bytes) none
    ∙ ap (λ rest. front ++ rest) (sym all)

-- a number grows by the next digit
pub one_digit_more : (n digit m : ℕ) (behind : List ℕ) → m ≡ n * 10 + (digit - 48) → 0 < n → 48 ≤ digit → digit ≤ 57
    → m < 2 ^ 64 → decimal n ++ digit ∷ behind ≡ decimal m ++ behind
one_digit_more n digit m behind is some low high small =
    let front : m / 10 ≡ n = omega arith in
    let last : 48 + m % 10 ≡ digit = omega arith in
    sym (ap (λ ds. ds ++ behind) (decimal_step m (omega arith) small ∙ (λ i. decimal (front i) ++ (last i ∷ [])))
    ∙ append_assoc (decimal n) (digit ∷ []) behind)
