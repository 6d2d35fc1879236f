-- Which lines end in the bytes of an input, and what has begun after the last of them.
use Rattle.std.proofs.Common.{◌≡◌, ◌∙◌, ℕ, ◌+◌, ◌<◌, ◌≤◌, ◌==◌, Bool, true, false, List, [], ◌∷◌, ◌++◌, length, get_or}
use Rattle.std.proofs.Common.{take, refl, sym, ap, subst}
use Rattle.std.proofs.Common.{Option, Some, None, not, unwrap_or, ⊎_elim, arith}
use Rattle.std.proofs.lemmas.Bool.{cases_lt}
use Rattle.std.proofs.lemmas.Grind.{common_steps, take_at_read}
use Rattle.std.proofs.lemmas.List.{same_from_push, take_all}
use Rattle.std.proofs.lemmas.List.Quantifiers.{position-Some}
use Rattle.std.proofs.lemmas.List.Sums.{count_by-le-length, fails_before_first, passes_at_first, position_or_len_is}
use Rattle.std.proofs.lemmas.List.Sums.{prefix_len-le-length}
use Rattle.std.proofs.lemmas.List.Splits.{length-slice_split, slice_split-cons_yes, slice_split-cons_no}
use Rattle.std.proofs.lemmas.List.Splits.{slice_split_none, slice_split_at, slice_split_first}
use Rattle.std.specs.List.{All, onto_first, before_first, after_first, position, position_or_len}
use Rattle.fr_bytes.specs.Lines.{lines_of}
use Rattle.fr_bytes.proofs.Cutting.{past_end}

abbrev pub ends_line : ℕ → Bool
ends_line x = x == 10

-- there is at most one more line than there are bytes
pub few_lines : (xs : List ℕ) → length (lines_of xs) ≤ length xs + 1
few_lines xs = omega (arith, length-slice_split ends_line xs, count_by-le-length ends_line xs)

-- the lines of these bytes: those that have ended, and then the one that has begun, which the bytes after it continue
pub record Parted (xs : List ℕ) : Type 0 where
  pub ended : List (List ℕ)
  pub begun : List ℕ
  pub cut : lines_of xs ≡ ended ++ begun ∷ []
  pub alone : lines_of begun ≡ begun ∷ []
  pub short : length begun ≤ length xs
  pub goes_on : (ys : List ℕ) → lines_of (xs ++ ys) ≡ ended ++ lines_of (begun ++ ys)

parted_end : (x : ℕ) (xs : List ℕ) → ends_line x ≡ true → Parted xs → Parted (x ∷ xs)
parted_end x xs at_end h = record {
  ended = [] ∷ h.ended;
  begun = h.begun;
  cut = slice_split-cons_yes ends_line x xs at_end ∙ ap (λ (ls : List (List ℕ)). [] ∷ ls) h.cut;
  alone = h.alone;
  short = omega (arith, h.short);
  goes_on =
      λ ys. slice_split-cons_yes ends_line x (xs ++ ys) at_end ∙ ap (λ (ls : List (List ℕ)). [] ∷ ls) (h.goes_on ys);
}

parted_first : (x : ℕ) (xs begun : List ℕ) → ends_line x ≡ false → lines_of xs ≡ begun ∷ []
    → lines_of begun ≡ begun ∷ [] → length begun ≤ length xs
    → ((ys : List ℕ) → lines_of (xs ++ ys) ≡ lines_of (begun ++ ys)) → Parted (x ∷ xs)
parted_first x xs begun within cut alone short goes_on = record {
  ended = [];
  begun = x ∷ begun;
  cut = slice_split-cons_no ends_line x xs within ∙ ap (onto_first x) cut;
  alone = slice_split-cons_no ends_line x begun within ∙ ap (onto_first x) alone;
  short = omega (arith, short);
  goes_on = λ ys. slice_split-cons_no ends_line x (xs ++ ys) within
      ∙ (ap (onto_first x) (goes_on ys) ∙ sym (slice_split-cons_no ends_line x (begun ++ ys) within));
}

parted_later : (x : ℕ) (xs line begun : List ℕ) (ended : List (List ℕ)) → ends_line x ≡ false
    → lines_of xs ≡ (line ∷ ended) ++ begun ∷ [] → lines_of begun ≡ begun ∷ []
    → length begun ≤ length xs → ((ys : List ℕ) → lines_of (xs ++ ys) ≡ (line ∷ ended) ++ lines_of (begun ++ ys))
    → Parted (x ∷ xs)
parted_later x xs line begun ended within cut alone short goes_on = record {
  ended = (x ∷ line) ∷ ended;
  begun = begun;
  cut = slice_split-cons_no ends_line x xs within ∙ ap (onto_first x) cut;
  alone = alone;
  short = omega (arith, short);
  goes_on = λ ys. slice_split-cons_no ends_line x (xs ++ ys) within ∙ ap (onto_first x) (goes_on ys);
}

parted_on : (x : ℕ) (xs : List ℕ) (ended : List (List ℕ)) (begun : List ℕ) → ends_line x ≡ false
    → lines_of xs ≡ ended ++ begun ∷ [] → lines_of begun ≡ begun ∷ []
    → length begun ≤ length xs → ((ys : List ℕ) → lines_of (xs ++ ys) ≡ ended ++ lines_of (begun ++ ys))
    → Parted (x ∷ xs)
parted_on x xs [] begun within cut alone short goes_on = parted_first x xs begun within cut alone short goes_on
parted_on x xs (line ∷ ended) begun within cut alone short goes_on =
    parted_later x xs line begun ended within cut alone short goes_on

pub parted : (xs : List ℕ) → Parted xs
parted [] = record {
  ended = [];
  begun = [];
  cut = refl;
  alone = refl;
  short = omega arith;
  goes_on = λ ys. refl;
}
parted (x ∷ xs) = of (ends_line x) refl (parted xs)
  where
    of : (b : Bool) → ends_line x ≡ b → Parted xs → Parted (x ∷ xs)
    of true at_end h = parted_end x xs at_end h
    of false within h = parted_on x xs h.ended h.begun within h.cut h.alone h.short h.goes_on

module _ (xs begun : List ℕ) (ended : List (List ℕ)) (cut : lines_of xs ≡ ended ++ begun ∷ []) where
  same_parts : (ended ≡ (parted xs).ended) × (begun ≡ (parted xs).begun)
  same_parts = same_from_push ended (parted xs).ended begun (parted xs).begun (sym cut ∙ (parted xs).cut)

  -- the bytes after it continue the line that has begun
  pub lines_go_on : (ys : List ℕ) → lines_of (xs ++ ys) ≡ ended ++ lines_of (begun ++ ys)
  lines_go_on ys =
      let same = same_parts in (parted xs).goes_on ys ∙ (λ i. sym same.0 i ++ lines_of (sym same.1 i ++ ys))

  -- it has no byte 10
  pub begun_alone : lines_of begun ≡ begun ∷ []
  begun_alone = subst (λ (b : List ℕ). lines_of b ≡ b ∷ []) (sym same_parts.1) (parted xs).alone

  -- it is no longer than the bytes
  pub begun_short : length begun ≤ length xs
  begun_short = subst (λ (b : List ℕ). length b ≤ length xs) (sym same_parts.1) (parted xs).short

-- a line that has begun with a byte
begun_later : (x : ℕ) (begun : List ℕ) → lines_of (x ∷ begun) ≡ (x ∷ begun) ∷ []
    → (ends_line x ≡ false) × (lines_of begun ≡ begun ∷ [])
begun_later x begun alone = of (ends_line x) refl
  where
    only : (ended : List (List ℕ)) (line : List ℕ) → onto_first x (ended ++ line ∷ []) ≡ (x ∷ begun) ∷ []
        → ended ++ line ∷ [] ≡ begun ∷ []
    only [] line e = let same : line ≡ begun = cc in ap (λ (l : List ℕ). l ∷ []) same
    only (first ∷ []) line e = cc
    only (first ∷ second ∷ ended) line e = cc

    of : (b : Bool) → ends_line x ≡ b → (ends_line x ≡ false) × (lines_of begun ≡ begun ∷ [])
    of true at_end = let two = sym (slice_split-cons_yes ends_line x begun at_end) ∙ alone in cc
    of false within =
        let rest = parted begun in
        let one : onto_first x (rest.ended ++ rest.begun ∷ []) ≡ (x ∷ begun) ∷ [] = ap (onto_first x) (sym rest.cut)
        ∙ (sym (slice_split-cons_no ends_line x begun within) ∙ alone) in
        (within, rest.cut ∙ only rest.ended rest.begun one)

-- if a line has begun, the first line of the bytes after it continues it
pub line_goes_on : (begun piece front : List ℕ) (behind : List (List ℕ)) → lines_of begun ≡ begun ∷ []
    → lines_of piece ≡ front ∷ behind → lines_of (begun ++ piece) ≡ (begun ++ front) ∷ behind
line_goes_on [] piece front behind alone lines = lines
line_goes_on (x ∷ begun) piece front behind alone lines =
    let later = begun_later x begun alone in
    slice_split-cons_no ends_line x (begun ++ piece) later.0
    ∙ ap (onto_first x) (line_goes_on begun piece front behind later.1 lines)

none_before : (xs : List ℕ) → All (λ x. ends_line x ≡ false) (before_first ends_line xs)
none_before xs =
    λ k d h. let k' = fails_before_first ends_line xs k d (grind (arith, common_steps)) in grind (arith, common_steps)

-- what is before the first byte 10 is one line
pub front_alone : (xs : List ℕ) → lines_of (before_first ends_line xs) ≡ before_first ends_line xs ∷ []
front_alone xs = slice_split_none ends_line (before_first ends_line xs) (none_before xs)

-- everything is one line if there is no byte 10
pub front_whole : (xs : List ℕ) → length xs ≤ position_or_len ends_line xs → before_first ends_line xs ≡ xs
front_whole xs none = take_all (position_or_len ends_line xs) xs none

pub one_line : (xs : List ℕ) → length xs ≤ position_or_len ends_line xs → lines_of xs ≡ xs ∷ []
one_line xs none = subst (λ (l : List ℕ). lines_of l ≡ l ∷ []) (front_whole xs none) (front_alone xs)

-- where the first byte 10 is, or the end if there is none
pub end_or_all : (xs : List ℕ) (found : Option ℕ) → position ends_line xs ≡ found
    → unwrap_or found (length xs) ≡ position_or_len ends_line xs
end_or_all xs (Some i) found =
    let at = position-Some ends_line xs i 0 found in
    sym (position_or_len_is ends_line xs i 0 (omega arith) at.2 (λ _. at.1))
end_or_all xs None found = omega (arith, past_end xs found, prefix_len-le-length (λ x. not (ends_line x)) xs)

-- the first line is what is before the first byte 10
pub first_line_is : (xs : List ℕ) → (behind : List (List ℕ)) × (lines_of xs ≡ before_first ends_line xs ∷ behind)
first_line_is xs =
    ⊎_elim
    (λ some. (lines_of (after_first ends_line xs), slice_split_first ends_line xs 0 some))
    (λ none. ([], one_line xs none ∙ ap (λ (l : List ℕ). l ∷ []) (sym (front_whole xs none))))
    (cases_lt (position_or_len ends_line xs) (length xs))

-- with the byte 10 it has ended
pub first_line_ends : (xs : List ℕ) → position_or_len ends_line xs < length xs
    → lines_of (take (position_or_len ends_line xs + 1) xs) ≡ before_first ends_line xs ∷ [] ∷ []
first_line_ends xs some =
    let front = before_first ends_line xs in
    let byte = get_or xs (position_or_len ends_line xs) 0 in
    let taken : take (position_or_len ends_line xs + 1) xs ≡ front ++ byte ∷ [] =
    (take_at_read xs (position_or_len ends_line xs) 0 some).1 in
    ap lines_of taken ∙ slice_split_at ends_line front byte [] (none_before xs) (passes_at_first ends_line xs 0 some)
