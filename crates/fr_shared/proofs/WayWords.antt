-- Words of ways: a word holds the ways that were put into it.
use Rattle.std.proofs.Common.{All, List, [], ap, arith, drop, get_or, length, map, refl, set, subst, suc}
use Rattle.std.proofs.Common.{sym, take}
use Rattle.std.proofs.Common.{zero, ℕ, ⊎_elim, ◌*◌, ◌+◌, ◌/◌, ◌%◌, ◌^◌, ◌<◌, ◌∙◌, ◌∷◌, ◌≡◌, ◌≤◌}
use Rattle.std.proofs.lemmas.Bool.{cases_eq}
use Rattle.std.proofs.lemmas.List.{get_or-drop, get_or-set_other, get_or-set_same, get_or-take, length-drop, length-set}
use Rattle.std.proofs.lemmas.List.{length-take}
use Rattle.std.proofs.lemmas.Nat.{shr-shr}
use Rattle.std.proofs.Math.Nat.{one-le-pow, pow-suc}
use Rattle.fr_ways.specs.Ways.{ways}
use Rattle.std.proofs.lemmas.List.Elements.{Contains-get_or}
use Rattle.std.proofs.lemmas.Option.{get_or_from_slice_get}
use Rattle.fr_shared.specs.Codec.{IsSound}
use Rattle.fr_shared.specs.Histories.{blank}
use Rattle.fr_shared.specs.WayParts.{AreWords, held_table}
use Rattle.fr_shared.specs.WayTables.{Fit, IsTable, digits_in, digits_of, way_codec, ways_of, word_of}
use Rattle.fr_shared.proofs.Histories.{AreHeld, table_held}
use Rattle.fr_shared.proofs.WayTables.{blank_is_table, blank_ways}

digits_again : (ys : List ℕ) → ((k : ℕ) → k < length ys → get_or ys k 0 < 4096)
    → digits_in (length ys) (digits_of ys) ≡ ys
digits_again [] low = refl
digits_again (y ∷ ys) low =
    let here : (y + 4096 * digits_of ys) % 4096 ≡ y = let l = low 0 (omega arith) in omega arith in
    let rest : (y + 4096 * digits_of ys) / 4096 ≡ digits_of ys = let l = low 0 (omega arith) in omega arith in
    let more : digits_in (length ys) ((y + 4096 * digits_of ys) / 4096) ≡ ys =
    ap (λ (w : ℕ). digits_in (length ys) w) rest ∙ digits_again ys (λ k l. low (suc k) (omega (arith, l))) in
    λ i. here i ∷ more i

pub word_again : (ys : List ℕ) → Fit ys → ways_of (word_of ys) ≡ ys
word_again ys fit =
    let few = fit.few in
    let count : (length ys + 16 * digits_of ys) % 16 ≡ length ys = omega arith in
    let rest : (length ys + 16 * digits_of ys) / 16 ≡ digits_of ys = omega arith in
    ap (λ (c : ℕ). digits_in c ((length ys + 16 * digits_of ys) / 16)) count
    ∙ (ap (λ (w : ℕ). digits_in (length ys) w) rest ∙ digits_again ys fit.low)

-- the ways of each node fit into a word
pub fits : (n : ℕ) (table : List (List ℕ)) → IsTable n table → n ≤ 4096 → (x : ℕ) → Fit (ways table x)
fits n table is few x = record {
  few = is.few x;
  low = λ k l. omega (
    arith,
    is.in_range x (get_or (ways table x) k 0) (Contains-get_or (ways table x) k 0 l),
    is.one_each,
    few,
  );
}

pub set_fits : (n : ℕ) (table : List (List ℕ)) (x : ℕ) (ys : List ℕ) → x < n → n ≤ 4096 → IsTable n (set table x ys)
    → Fit ys
set_fits n table x ys low few is =
    let here : ways (set table x ys) x ≡ ys =
    get_or-set_same table x ys [] (omega (arith, low, is.one_each, length-set table x ys)) in
    subst Fit here (fits n (set table x ys) is few x)

-- the words of a table hold it
pub fit_held : (table : List (List ℕ)) → ((x : ℕ) → Fit (ways table x)) → AreHeld way_codec table
fit_held table fit x ys is = word_again ys (subst Fit (get_or_from_slice_get table x ys [] is) (fit x))

pub ways_are_sound : IsSound way_codec
ways_are_sound = record {
  one_each = λ n table is. is.one_each;
  first = blank_is_table;
  again = λ n table x ys few is at. fit_held table (fits n table is few) x ys at;
}

pub length-digits_in : (c rest : ℕ) → length (digits_in c rest) ≡ c
length-digits_in zero rest = refl
length-digits_in (suc c) rest = omega (arith, length-digits_in c (rest / 4096))

-- one of the digits of a number
digit_at : (c rest k : ℕ) → k < c → get_or (digits_in c rest) k 0 ≡ rest / 2 ^ (12 * k) % 4096
digit_at zero rest k low = absurd (omega (arith, low))
digit_at (suc c) rest zero low = let whole : rest / 1 ≡ rest = omega arith in ap (λ (v : ℕ). v % 4096) (sym whole)
digit_at (suc c) rest (suc k) low =
    let more : 12 + 12 * k ≡ 12 * suc k = omega arith in
    digit_at c (rest / 4096) k (omega (arith, low))
    ∙ ap (λ (v : ℕ). v % 4096) (shr-shr rest 12 (12 * k) ∙ ap (λ (j : ℕ). rest / 2 ^ j) more)

pub way_at : (word k : ℕ) → k < length (ways_of word) → word / 2 ^ (4 + 12 * k) % 4096 ≡ get_or (ways_of word) k 0
way_at word k inside = sym (digit_at (word % 16) (word / 16) k
    (omega (arith, inside, length-digits_in (word % 16) (word / 16)))
    ∙ ap (λ (v : ℕ). v % 4096) (shr-shr word 4 (12 * k)))

digits_low : (n : ℕ) (ys : List ℕ) → length ys ≤ n → ((k : ℕ) → k < length ys → get_or ys k 0 < 4096)
    → digits_of ys + 1 ≤ 4096 ^ n
digits_low n [] short low = let one : 1 ≤ 4096 ^ n = one-le-pow n 4096 (omega arith) in omega (arith, one)
digits_low zero (y ∷ ys) short low = absurd (omega (arith, short))
digits_low (suc n) (y ∷ ys) short low =
    let more = digits_low n ys (omega (arith, short)) (λ k l. low (suc k) (omega (arith, l))) in
    omega (arith, more, low 0 (omega arith), pow-suc 4096 n)

-- of the last ways of a node
pub digits_from : (n : ℕ) (ys : List ℕ) (k : ℕ) → Fit ys → length ys ≤ n + k → digits_of (drop k ys) + 1 ≤ 4096 ^ n
digits_from n ys k fit short = digits_low n (drop k ys) (omega (arith, short, length-drop k ys))
    (λ i l. omega (arith, get_or-drop k ys i 0, fit.low (k + i) (omega (arith, l, length-drop k ys))))

-- words of a table hold it
pub are_words : (table : List (List ℕ)) (words : List ℕ) → ((x : ℕ) → Fit (ways table x)) → words ≡ map word_of table
    → (held_table words ≡ table) × AreWords words
are_words table words fit is =
    let held : held_table words ≡ table = ap (map ways_of) is ∙ table_held way_codec table (fit_held table fit) in (
      held,
      record {
        again = is ∙ ap (map word_of) (sym held);
        fit = λ x. subst Fit (ap (λ (t : List (List ℕ)). ways t x) (sym held)) (fit x);
      },
    )

pub none_fit : Fit []
none_fit = record { few = omega arith; low = λ k low. absurd (omega (arith, low)) }

pub blank_fit : (n x : ℕ) → Fit (ways (blank way_codec n) x)
blank_fit n x = subst Fit (sym (blank_ways n x)) none_fit

pub first_fit : (ys : List ℕ) → All (λ (y : ℕ). y < 4096) ys → Fit (take 5 ys)
first_fit ys low = record {
  few = omega (arith, length-take 5 ys);
  low = λ k inside. let all = low k 0 (omega (arith, inside, length-take 5 ys)) in
      omega (arith, all, get_or-take 5 ys k 0 (omega (arith, inside, length-take 5 ys)));
}

pub set_fit : (table : List (List ℕ)) (x : ℕ) (ys : List ℕ) → x < length table → Fit ys → ((y : ℕ) → Fit (ways table y))
    → (y : ℕ) → Fit (ways (set table x ys) y)
set_fit table x ys low fit all y = ⊎_elim
    (λ e. subst Fit (sym (ap (λ (z : ℕ). ways (set table x ys) z) e ∙ get_or-set_same table x ys [] low)) fit)
    (λ apart. subst Fit (sym (get_or-set_other table x y ys [] apart)) (all y))
    (cases_eq y x)
