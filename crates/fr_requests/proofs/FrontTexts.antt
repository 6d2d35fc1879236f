-- The front of a text, as a lexeme.
use Rattle.std.proofs.Common.{Bool, IsUtf8, List, Some, [], ap, append_assoc, decimal, eqb-true, false}
use Rattle.std.proofs.Common.{get_or, inl, inr, refl, subst, sym, true, ℕ}
use Rattle.std.proofs.Common.{◌++◌, ◌<◌, ◌==◌, ◌||◌, ◌∙◌, ◌∷◌, ◌≡◌, ◌^◌, if◌then◌else◌}
use Rattle.std.proofs.lemmas.Bool.{or_cases}
use Rattle.std.proofs.lemmas.Fmt.{IsAscii-decimal}
use Rattle.std.proofs.lemmas.Str.{IsUtf8-append, IsUtf8-from_ascii}
use Rattle.json.proofs.Printed.Decimals.{IsNumber-decimal}
use Rattle.json.proofs.Printed.Numbers.{lex-number}
use Rattle.json.proofs.Printed.Strings.{content-escape, lex-escape}
use Rattle.json.proofs.Printed.Utf8.{IsUtf8-are_ascii, are_ascii}
use Rattle.json.specs.Lex.{Lexeme, between, class, in_string, lex, lex_byte, operator, operator_lexeme, space}
use Rattle.json.specs.Lex.{string_token, token}
use Rattle.json.specs.Print.{escape, escape_byte}
use Rattle.json.specs.Text.{content, plain}
use Rattle.json.specs.Token.{Token}
use Rattle.json.specs.Word.{ends_word, is_operator, is_space}
use Rattle.fr_requests.specs.LineLexemes.{Begins, letters, number_lexeme, opening, unspaced}
use Rattle.fr_requests.specs.declared.requests.Question.TheVariants.{Counts, Hops, Links, Ways}
use Rattle.fr_requests.specs.declared.words.EditWord.TheVariants as edit_word
use Rattle.fr_requests.specs.declared.words.Word.{Word}
use Rattle.fr_requests.specs.declared.words.Word.TheVariants as word

either : (p q : Bool) (P : Type 0) → (p || q) ≡ true → (p ≡ true → P) → (q ≡ true → P) → P
either p q P h f g = elim (or_cases p q h) [ inl e ↦ f e | inr e ↦ g e ]

-- what holds of each byte of white space holds of this one
space_is : (P : ℕ → Type 0) (b : ℕ) → is_space b ≡ true → P 32 → P 9 → P 10 → P 13 → P b
space_is P b h p q r s =
    let at : (k : ℕ) → P k → (b == k) ≡ true → P b = λ k given e. subst P (sym (eqb-true b k e)) given in
    either _ _ (P b) h (λ h. either _ _ (P b) h (λ h. either _ _ (P b) h (at 32 p) (at 9 q)) (at 10 r)) (at 13 s)

-- the same for each mark
mark_is : (P : ℕ → Type 0) (b : ℕ) → is_operator b ≡ true → P 123 → P 125 → P 91 → P 93 → P 58 → P 44 → P b
mark_is P b h p q r s t u =
    let at : (k : ℕ) → P k → (b == k) ≡ true → P b = λ k given e. subst P (sym (eqb-true b k e)) given in
    either _ _ (P b) h
    (λ h. either _ _ (P b) h (λ h. either _ _ (P b) h
    (λ h. either _ _ (P b) h (λ h. either _ _ (P b) h (at 123 p) (at 125 q)) (at 91 r)) (at 93 s)) (at 58 t)) (at 44 u)

one_byte : (b : ℕ) (bs : List ℕ) → are_ascii (b ∷ []) ≡ true → IsUtf8 bs → IsUtf8 (b ∷ bs)
one_byte b bs ascii utf8 = IsUtf8-append (b ∷ []) bs (IsUtf8-are_ascii (b ∷ []) ascii) utf8

-- white space makes no lexeme
space_passes : (text : List ℕ)
    → (lex between text ≡ lex between (unspaced text)) × (IsUtf8 (unspaced text) → IsUtf8 text)
unfolding lex
space_passes [] = (refl, λ utf8. utf8)
space_passes (b ∷ bs) = go (is_space b) refl (space_passes bs)
  where
    go : (s : Bool) → is_space b ≡ s → (lex between bs ≡ lex between (unspaced bs)) × (IsUtf8 (unspaced bs) → IsUtf8 bs)
        → (lex between (b ∷ bs) ≡ lex between (if s then unspaced bs else b ∷ bs))
        × (IsUtf8 (if s then unspaced bs else b ∷ bs) → IsUtf8 (b ∷ bs))
    go true e more =
        let blank : class b ≡ space = space_is (λ k. class k ≡ space) b e refl refl refl refl in
        let ascii : are_ascii (b ∷ []) ≡ true = space_is (λ k. are_ascii (k ∷ []) ≡ true) b e refl refl refl refl in (
          ap (λ c. lex_byte between c b bs (λ next. lex next bs)) blank ∙ more.0,
          λ utf8. one_byte b bs ascii (more.1 utf8),
        )
    go false e more = (refl, λ utf8. utf8)

-- what is read at the front of a text after white space
begins : (text front rest : List ℕ) (found : List Lexeme) → unspaced text ≡ front ++ rest → IsUtf8 front
    → lex between (front ++ rest) ≡ found ++ lex between rest → Begins text found rest
begins text front rest found stands utf8 read =
    let passed = space_passes text in (
      passed.0 ∙ ap (lex between) stands ∙ read,
      λ more. passed.1 (subst IsUtf8 (sym stands) (IsUtf8-append front rest utf8 more)),
    )

-- and then more is read
pub begins_more : (text mid rest : List ℕ) (xs ys : List Lexeme) → Begins text xs mid → Begins mid ys rest
    → Begins text (xs ++ ys) rest
begins_more text mid rest xs ys first next =
    (first.0 ∙ ap (λ ls. xs ++ ls) next.0 ∙ sym (append_assoc xs ys (lex between rest)), λ utf8. first.1 (next.1 utf8))

-- a mark is not white space
pub mark_stays : (mark : ℕ) (bs : List ℕ) → is_operator mark ≡ true → unspaced (mark ∷ bs) ≡ mark ∷ bs
mark_stays mark bs is = mark_is (λ k. unspaced (k ∷ bs) ≡ k ∷ bs) mark is refl refl refl refl refl refl

pub mark_begins : (mark : ℕ) (text rest : List ℕ) → is_operator mark ≡ true → unspaced text ≡ mark ∷ rest
    → Begins text (operator_lexeme mark ∷ []) rest
unfolding lex
mark_begins mark text rest is stands =
    let its : class mark ≡ operator = mark_is (λ k. class k ≡ operator) mark is refl refl refl refl refl refl in
    let ascii : are_ascii (mark ∷ []) ≡ true =
    mark_is (λ k. are_ascii (k ∷ []) ≡ true) mark is refl refl refl refl refl refl in
    begins text (mark ∷ []) rest (operator_lexeme mark ∷ []) stands (IsUtf8-are_ascii (mark ∷ []) ascii)
    (ap (λ c. lex_byte between c mark rest (λ next. lex next rest)) its)

-- a word without escapes
pub word_begins : (letters text rest : List ℕ) → escape letters ≡ letters → are_ascii (34 ∷ (letters ++ 34 ∷ [])) ≡ true
    → unspaced text ≡ (34 ∷ (letters ++ 34 ∷ [])) ++ rest → Begins text (token (Token.string letters) ∷ []) rest
unfolding lex
word_begins letters text rest plain_word ascii stands =
    let whole = append_assoc letters (34 ∷ []) rest in
    let within : content plain (letters ++ 34 ∷ rest) ≡ Some letters = ap (λ w. content plain (w ++ 34 ∷ rest))
    (sym plain_word) ∙ content-escape letters rest in
    let over : lex in_string (letters ++ 34 ∷ rest) ≡ lex between rest =
    ap (λ w. lex in_string (w ++ 34 ∷ rest)) (sym plain_word) ∙ lex-escape letters rest in
    begins text (34 ∷ (letters ++ 34 ∷ [])) rest (token (Token.string letters) ∷ []) stands (IsUtf8-are_ascii _ ascii)
    (ap (λ bs. lex between (34 ∷ bs)) whole ∙ (λ i. token (string_token (within i)) ∷ over i))

-- an array that begins with a word without escapes
pub opens_with : (letters text inside rest : List ℕ) → escape letters ≡ letters
    → are_ascii (34 ∷ (letters ++ 34 ∷ [])) ≡ true
    → Begins text (token Token.begin_array ∷ []) inside → unspaced inside ≡ (34 ∷ (letters ++ 34 ∷ [])) ++ rest
    → Begins text (opening letters) rest
opens_with letters text inside rest plain_word ascii opens stands =
    begins_more text inside rest (token Token.begin_array ∷ []) (token (Token.string letters) ∷ []) opens
    (word_begins letters inside rest plain_word ascii stands)

or_true : (p : Bool) → (p || true) ≡ true
or_true true = refl
or_true false = refl

-- a word has ended before a mark, and before the white space there
ends_at_mark : (mark : ℕ) (text rest : List ℕ) → is_operator mark ≡ true → unspaced text ≡ mark ∷ rest
    → ends_word text ≡ true
ends_at_mark mark [] rest is stands = refl
ends_at_mark mark (b ∷ bs) rest is stands = go (is_space b) refl stands
  where
    go : (s : Bool) → is_space b ≡ s → (if s then unspaced bs else b ∷ bs) ≡ mark ∷ rest
        → (is_operator b || is_space b) ≡ true
    go true e stands = ap (λ s. is_operator b || s) e ∙ or_true (is_operator b)
    go false e stands =
        ap (λ k. is_operator k || is_space b) (ap (λ bytes. get_or bytes 0 0) stands) ∙ ap (λ p. p || is_space b) is

-- a number before a mark
pub number_begins : (n mark : ℕ) (text between_them rest : List ℕ) → n < 2 ^ 64 → is_operator mark ≡ true
    → unspaced text ≡ decimal n ++ between_them
    → unspaced between_them ≡ mark ∷ rest
    → Begins text (number_lexeme n ∷ operator_lexeme mark ∷ []) rest
number_begins n mark text between_them rest small is stands follows =
    let ended = ends_at_mark mark between_them rest is follows in
    begins_more text between_them rest (number_lexeme n ∷ []) (operator_lexeme mark ∷ [])
    (begins text (decimal n) between_them (number_lexeme n ∷ []) stands
    (IsUtf8-from_ascii (decimal n) (IsAscii-decimal n small))
    (lex-number (decimal n) between_them (IsNumber-decimal n small) ended))
    (mark_begins mark between_them rest is follows)

-- only white space is left
pub over_begins : (text : List ℕ) → unspaced text ≡ [] → Begins text [] []
over_begins text over =
    let passed = space_passes text in
    (passed.0 ∙ ap (lex between) over, λ utf8. passed.1 (subst IsUtf8 (sym over) utf8))

-- the words of requests have no escapes
pub letters_plain : (word : Word) → escape (letters word) ≡ letters word
unfolding escape_byte
letters_plain word.Network = refl
letters_plain (word.Edit edit_word.Cut) = refl
letters_plain (word.Edit edit_word.Add) = refl
letters_plain (word.Edit edit_word.Join) = refl
letters_plain word.Batch = refl
letters_plain word.Destination = refl
letters_plain word.Walk = refl
letters_plain (word.Ask Links) = refl
letters_plain (word.Ask Counts) = refl
letters_plain (word.Ask Hops) = refl
letters_plain (word.Ask Ways) = refl

pub letters_ascii : (word : Word) → are_ascii (34 ∷ (letters word ++ 34 ∷ [])) ≡ true
letters_ascii word.Network = refl
letters_ascii (word.Edit edit_word.Cut) = refl
letters_ascii (word.Edit edit_word.Add) = refl
letters_ascii (word.Edit edit_word.Join) = refl
letters_ascii word.Batch = refl
letters_ascii word.Destination = refl
letters_ascii word.Walk = refl
letters_ascii (word.Ask Links) = refl
letters_ascii (word.Ask Counts) = refl
letters_ascii (word.Ask Hops) = refl
letters_ascii (word.Ask Ways) = refl
