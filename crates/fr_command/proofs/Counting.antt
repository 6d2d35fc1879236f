-- How many of some lines are answered.
use Rattle.std.proofs.Common.{◌≡◌, ◌∙◌, ℕ, ◌+◌, ◌-◌, ◌^◌, ◌≤◌, Bool, true, false, cond}
use Rattle.std.proofs.Common.{not, List, [], ◌∷◌, length, MatchBool, refl, ap, arith}
use Rattle.std.proofs.Math.Nat.{min-eq_left}
use Rattle.std.proofs.lemmas.List.Sums.{sum_by-cons}
use Rattle.fr_route.specs.Blank.{is_blank}
use Rattle.fr_route.specs.declared.form.Form.{Form}
use Rattle.fr_bytes.specs.Bytes.{most_bytes}
use Rattle.fr_bytes.specs.Lines.{lines_of}
use Rattle.fr_bytes.proofs.Ending.{few_lines}
use Rattle.fr_command.specs.Outputs.{asking_count}
use Rattle.fr_command.specs.Points.{Point, AreAnswersIn, after_answer, after_blank, first_point, one_more}
use Rattle.fr_command.proofs.AnswersIn.{Answered}

-- a count that has not come to its end goes up
one_more-below : (count : ℕ) → count + 1 ≤ 2 ^ 64 - 1 → one_more count ≡ count + 1
one_more-below count below = min-eq_left below

blank_or_not : (b : Bool) (P Q T : Type 0) → (b ≡ true → P → T) → (b ≡ false → Q → T) → MatchBool b P Q → T
blank_or_not true P Q T f g h = f refl h
blank_or_not false P Q T f g h = g refl h

asking_count-cons : (line : List ℕ) (rest : List (List ℕ)) (b : Bool) → is_blank line ≡ b
    → asking_count (line ∷ rest) ≡ cond (not b) 1 0 + asking_count rest
asking_count-cons line rest b is =
    sum_by-cons (λ (l : List ℕ). cond (not (is_blank l)) 1 0) line rest
    ∙ ap (λ (x : Bool). cond (not x) 1 0 + asking_count rest) is

-- the lines that are not blank are answered
answered_are : (form : Form) (old new : Point) (lines : List (List ℕ)) (out : List ℕ)
    → AreAnswersIn form old lines out new
    → old.answered + length lines ≤ 2 ^ 64 - 1 → new.answered ≡ old.answered + asking_count lines
answered_are form old new [] out h few = ap (λ (p : Point). p.answered) h.1 ∙ omega arith
answered_are form old new (line ∷ rest) out h few =
    blank_or_not (is_blank line) (AreAnswersIn form (after_blank old) rest out new)
    (Answered form old line rest out new)
    (new.answered ≡ old.answered + asking_count (line ∷ rest))
    (λ blank h.
    let more = answered_are form (after_blank old) new rest out h (omega (arith, few)) in
    more ∙ omega (arith, asking_count-cons line rest true blank))
    (λ asks h.
    let one = one_more-below old.answered (omega (arith, few)) in
    let more = answered_are form (after_answer old h.1 h.2) new rest h.3 h.5 (omega (arith, few, one)) in
    more ∙ omega (arith, asking_count-cons line rest false asks, one))
    h

-- an input is so short that all its lines can be counted
pub answered_all : (form : Form) (bytes out : List ℕ) (last : Point) → length bytes ≤ most_bytes
    → AreAnswersIn form first_point (lines_of bytes) out last → last.answered ≡ asking_count (lines_of bytes)
answered_all form bytes out last short h =
    let all : last.answered ≡ 0 + asking_count (lines_of bytes) =
    answered_are form first_point last (lines_of bytes) out h (omega (arith, few_lines bytes, short)) in
    omega (arith, all)
