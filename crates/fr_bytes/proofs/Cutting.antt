-- Where the first line ends.
use Rattle.std.proofs.Common.{◌≡◌, ◌∙◌, ℕ, zero, suc, ◌+◌, ◌<◌, ◌≤◌, ◌==◌, Bool, true, false, List, [], ◌∷◌, length}
use Rattle.std.proofs.Common.{get_or, take, drop, cond, Some}
use Rattle.std.proofs.Common.{None, refl, arith}
use Rattle.std.proofs.lemmas.List.Quantifiers.{position-Some}
use Rattle.std.proofs.lemmas.List.Sums.{fails_before_first}
use Rattle.std.proofs.lemmas.List.Splits.{slice_split-cons_yes, slice_split-cons_no, slice_split_none}
use Rattle.std.proofs.lemmas.Bool.Decides.{nat_tests}
use Rattle.std.specs.List.{position, position_or_len}
use Rattle.fr_bytes.specs.Lines.{lines_of}

abbrev ends_line : ℕ → Bool
ends_line x = x == 10

split_at : (xs : List ℕ) (i : ℕ) → i < length xs → ends_line (get_or xs i 0) ≡ true
    → ((k : ℕ) → k < i → ends_line (get_or xs k 0) ≡ false)
    → lines_of xs ≡ take i xs ∷ lines_of (drop (i + 1) xs)
split_at [] i lt is before = absurd (omega arith)
split_at (x ∷ xs) zero lt is before = slice_split-cons_yes ends_line x xs is
split_at (x ∷ xs) (suc i) lt is before =
    let rest = split_at xs i (omega arith) is (λ k h. before (suc k) (omega arith)) in
    let one_more : suc i + 1 ≡ suc (i + 1) = omega arith in
    slice_split-cons_no ends_line x xs (before 0 (omega arith)) ∙ rw (rest, one_more) refl

-- the first line ends before the first byte 10
pub lines_of-Some : (xs : List ℕ) (i : ℕ) → position ends_line xs ≡ Some i
    → lines_of xs ≡ take i xs ∷ lines_of (drop (i + 1) xs)
lines_of-Some xs i e = let first = position-Some ends_line xs i 0 e in split_at xs i first.0 first.1 first.2

none_false : (b : Bool) (m : ℕ) → cond b (Some m) None ≡ None → b ≡ false
none_false true m e = cc
none_false false m e = refl

-- which leads past the end
pub past_end : (xs : List ℕ) → position ends_line xs ≡ None → length xs ≤ position_or_len ends_line xs
past_end xs e = let no = none_false _ _ e in grind (arith, nat_tests)

-- if there is none, everything is one line
pub lines_of-None : (xs : List ℕ) → position ends_line xs ≡ None → lines_of xs ≡ xs ∷ []
lines_of-None xs e =
    let past = past_end xs e in
    slice_split_none ends_line xs (λ k d h. fails_before_first ends_line xs k d (omega arith))
