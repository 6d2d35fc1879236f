-- A list of numbers without a gap, of which b are not 0: each is at most b, and their sum at most 1 + 2 + .. + b.
use Rattle.std.proofs.Common.{Bool, List, [], ap, arith, cond, count_by, length, ne_eqb, refl, slice_index}
use Rattle.std.proofs.Common.{eq-eqb, map, slice_set, sum, suc, sym, zero, ℕ, ⊎_elim, ◌*◌, ◌+◌, ◌-◌, ◌<◌}
use Rattle.std.proofs.Common.{◌==◌, ◌∙◌, ◌∷◌, ◌≡◌, ◌≤◌}
use Rattle.std.proofs.Math.Nat.{add-mul, mul_comm}
use Rattle.std.specs.Prelude.{not}
use Rattle.std.proofs.lemmas.Bool.{cases_eq, cases_lt, cond-false, cond-true}
use Rattle.std.proofs.lemmas.List.{get_or-set_other, get_or-set_same, length-set}
use Rattle.std.proofs.lemmas.List.Elements.{All-from_get_or}
use Rattle.std.proofs.lemmas.List.Sums.{count_by-le-length, sum_by-cons, sum_by-le, sum_by-set}
use Rattle.fr_graph.proofs.Counting.{one_passes}

-- a place of a greatest value
abbrev Greatest : (ℕ → ℕ) → ℕ → Type 0
Greatest f n = (i : ℕ) × (i < suc n) × ((j : ℕ) → j < suc n → f j ≤ f i)

greatest : (f : ℕ → ℕ) (n : ℕ) → Greatest f n
greatest f zero = (0, omega arith, λ j l. let e : j ≡ 0 = omega arith in omega (arith, ap f e))
greatest f (suc n) = go (greatest f n)
  where
    go : Greatest f n → Greatest f (suc n)
    go (i, low, most) = ⊎_elim
        (λ above.
        let last : (j : ℕ) → j < suc (suc n) → f j ≤ f (suc n) =
        λ j l. ⊎_elim
        (λ e. omega (arith, ap f e))
        (λ ne. omega (arith, most j (omega arith), above))
        (cases_eq j (suc n)) in
        (suc n, omega arith, last))
        (λ under.
        let still : (j : ℕ) → j < suc (suc n) → f j ≤ f i =
        λ j l. ⊎_elim (λ e. omega (arith, ap f e, under)) (λ ne. most j (omega arith)) (cases_eq j (suc n)) in
        (i, omega arith, still))
        (cases_lt (f i) (f (suc n)))

abbrev pub is_some : ℕ → Bool
is_some v = not (v == 0)

abbrev pub weight : ℕ → ℕ
weight v = cond (is_some v) 1 0

-- a number above 0 in the list means that the number below it is there too
abbrev pub HasNoGap : List ℕ → Type 0
HasNoGap xs = (i k : ℕ) → i < length xs → slice_index xs i ≡ k + 1 → (j : ℕ) × (j < length xs) × (slice_index xs j ≡ k)

some_counts : (xs : List ℕ) (i : ℕ) → i < length xs → ¬ (slice_index xs i ≡ 0) → 1 ≤ count_by is_some xs
some_counts xs i l ne = one_passes is_some xs i 0 l (rw (ne_eqb (slice_index xs i) 0 ne) refl)

sum_of_nothing : (xs : List ℕ) → ((i : ℕ) → i < length xs → slice_index xs i ≤ 0) → sum xs ≤ 0
sum_of_nothing xs none = omega (arith, sum_by-le (λ (y : ℕ). y) 0 xs (All-from_get_or (λ (y : ℕ). y ≤ 0) xs 0 none))

pub triangle : (b : ℕ) → suc b * (suc b + 1) ≡ b * (b + 1) + 2 * (b + 1)
triangle b = omega (arith, add-mul b 2 (b + 1), mul_comm (suc b) (suc b + 1))

-- each is at most b, and all together are at most 1 + 2 + .. + b
abbrev pub AreFew : ℕ → List ℕ → Type 0
AreFew b xs = ((i : ℕ) → i < length xs → slice_index xs i ≤ b) × (2 * sum xs ≤ b * (b + 1))

-- the list with a greatest number set to 0: it has no gap either, and one less that is not 0
module _ (xs : List ℕ) (no_gap : HasNoGap xs) (i : ℕ) (low : i < length xs)
    (most : (j : ℕ) → j < length xs → slice_index xs j ≤ slice_index xs i) where
  abbrev lowered : List ℕ
  lowered = slice_set xs i 0

  lowered_long : length lowered ≡ length xs
  lowered_long = length-set xs i 0

  lowered_other : (j : ℕ) → ¬ (j ≡ i) → slice_index lowered j ≡ slice_index xs j
  lowered_other j ne = get_or-set_other xs i j 0 0 ne

  lowered_no_gap : HasNoGap lowered
  lowered_no_gap j k l e = ⊎_elim
      (λ same. absurd (omega (arith, e, ap (slice_index lowered) same, get_or-set_same xs i 0 0 low)))
      (λ apart.
      let in_list : j < length xs = omega (arith, lowered_long) in
      let under = no_gap j k in_list (sym (lowered_other j apart) ∙ e) in
      let high = most j in_list in
      let kept = lowered_other j apart in
      let ne : ¬ (under.0 ≡ i) = λ same. omega (arith, ap (slice_index xs) same, under.2, high, kept, e) in
      (under.0, omega (arith, lowered_long, under.1), lowered_other under.0 ne ∙ under.2))
      (cases_eq j i)

  module _ (some : ¬ (slice_index xs i ≡ 0)) where
    lowered_count : count_by is_some xs ≡ count_by is_some lowered + 1
    lowered_count =
        let one : weight (slice_index xs i) ≡ 1 = rw (ne_eqb (slice_index xs i) 0 some) refl in
        omega (arith, one, sum_by-set weight xs i 0 0 low)

    -- the number below the greatest one is still there
    most_within : (b : ℕ) → AreFew b lowered → slice_index xs i ≤ b + 1
    most_within b rest =
        let under = no_gap i (slice_index xs i - 1) low (omega (arith, some)) in
        let ne : ¬ (under.0 ≡ i) = λ same. omega (arith, ap (slice_index xs) same, under.2, some) in
        omega (arith, rest.0 under.0 (omega (arith, lowered_long, under.1)), lowered_other under.0 ne, under.2, some)

    few_again : (b : ℕ) → AreFew b lowered → AreFew (suc b) xs
    few_again b rest =
        let top = most_within b rest in (
          λ j l. omega (arith, top, most j l),
          omega (arith, top, rest.1, triangle b, sum_by-set (λ (y : ℕ). y) xs i 0 0 low),
        )

pub few_without_gap : (b : ℕ) (xs : List ℕ) → HasNoGap xs → count_by is_some xs ≡ b → AreFew b xs
few_without_gap zero xs no_gap number =
    let none : (i : ℕ) → i < length xs → slice_index xs i ≤ 0 =
    λ i l. ⊎_elim
    (λ e. omega (arith, e))
    (λ ne. absurd (omega (arith, some_counts xs i l ne, number)))
    (cases_eq (slice_index xs i) 0) in
    (none, omega (arith, sum_of_nothing xs none))
few_without_gap (suc b) xs no_gap number =
    let long : 1 ≤ length xs = omega (arith, count_by-le-length is_some xs, number) in
    let top = greatest (slice_index xs) (length xs - 1) in
    let low : top.0 < length xs = omega (arith, top.1, long) in
    let most : (j : ℕ) → j < length xs → slice_index xs j ≤ slice_index xs top.0 = λ j l. top.2 j (omega arith) in
    ⊎_elim {C = AreFew (suc b) xs}
    (λ none.
    let zeros : (j : ℕ) → j < length xs → slice_index xs j ≤ 0 = λ j l. omega (arith, most j l, none) in
    (λ j l. omega (arith, zeros j l), omega (arith, sum_of_nothing xs zeros)))
    (λ some.
    let one_less = lowered_count xs no_gap top.0 low most some in
    let rest = lowered_no_gap xs no_gap top.0 low most in
    few_again xs no_gap top.0 low most some b
    (few_without_gap b (lowered xs no_gap top.0 low most) rest (omega (arith, one_less, number))))
    (cases_eq (slice_index xs top.0) 0)

-- 0 in place of n
abbrev pub uncap : ℕ → ℕ → ℕ
uncap n v = cond (v == n) 0 v

pub uncap-n : (n v : ℕ) → v ≡ n → uncap n v ≡ 0
uncap-n n v e = cond-true {A = ℕ} (v == n) 0 v (eq-eqb v n e)

pub uncap-other : (n v : ℕ) → ¬ (v ≡ n) → uncap n v ≡ v
uncap-other n v ne = cond-false {A = ℕ} (v == n) 0 v (ne_eqb v n ne)

-- a list with 0 in place of each n: what is not 0, and what all come to
pub split_counts : (n : ℕ) → 0 < n → (xs : List ℕ)
    → count_by is_some xs ≡ count_by is_some (map (uncap n) xs) + count_by (λ v. v == n) xs
split_counts n low [] = refl
split_counts n low (x ∷ xs) =
    let at_n : ℕ → ℕ = λ v. cond (v == n) 1 0 in
    let rest = split_counts n low xs in
    let whole = sum_by-cons weight x xs in
    let left = sum_by-cons weight (uncap n x) (map (uncap n) xs) in
    let right = sum_by-cons at_n x xs in
    ⊎_elim
    (λ e.
    let none : weight (uncap n x) ≡ 0 = ap weight (uncap-n n x e) in
    let one : at_n x ≡ 1 = rw (eq-eqb x n e) refl in
    let some : weight x ≡ 1 = rw (ne_eqb x 0 (λ z. omega (arith, z, e, low))) refl in
    omega (arith, rest, whole, left, right, none, one, some))
    (λ ne.
    let same : weight (uncap n x) ≡ weight x = ap weight (uncap-other n x ne) in
    let none : at_n x ≡ 0 = rw (ne_eqb x n ne) refl in
    omega (arith, rest, whole, left, right, same, none))
    (cases_eq x n)

pub split_sum : (n : ℕ) (xs : List ℕ) → sum xs ≡ sum (map (uncap n) xs) + count_by (λ v. v == n) xs * n
split_sum n [] = omega arith
split_sum n (x ∷ xs) =
    let same : ℕ → ℕ = λ v. v in
    let at_n : ℕ → ℕ = λ v. cond (v == n) 1 0 in
    let rest = split_sum n xs in
    let whole = sum_by-cons same x xs in
    let left = sum_by-cons same (uncap n x) (map (uncap n) xs) in
    let right = sum_by-cons at_n x xs in
    ⊎_elim
    (λ e.
    let one : at_n x ≡ 1 = rw (eq-eqb x n e) refl in
    let more : count_by (λ v. v == n) (x ∷ xs) ≡ count_by (λ v. v == n) xs + 1 = omega (arith, right, one) in
    let times : count_by (λ v. v == n) (x ∷ xs) * n ≡ count_by (λ v. v == n) xs * n + 1 * n =
    ap (λ (k : ℕ). k * n) more ∙ add-mul (count_by (λ v. v == n) xs) 1 n in
    omega (arith, rest, whole, left, times, uncap-n n x e, e))
    (λ ne.
    let none : at_n x ≡ 0 = rw (ne_eqb x n ne) refl in
    let more : count_by (λ v. v == n) (x ∷ xs) ≡ count_by (λ v. v == n) xs = omega (arith, right, none) in
    let times : count_by (λ v. v == n) (x ∷ xs) * n ≡ count_by (λ v. v == n) xs * n = ap (λ (k : ℕ). k * n) more in
    omega (arith, rest, whole, left, times, uncap-other n x ne))
    (cases_eq x n)
