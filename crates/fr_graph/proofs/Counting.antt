-- How many elements of a list pass a test.
use Rattle.std.proofs.Common.{add-one, Bool, List, None, Option, Some, [], ap, arith, cond, count_by, false, get_or}
use Rattle.std.proofs.Common.{inl, inr, length, map, refl, set, suc}
use Rattle.std.proofs.Common.{true, zero, zero-add, ℕ, ◌+◌, ◌<◌, ◌∷◌, ◌≡◌, ◌≤◌, ◌⊎◌}
use Rattle.std.specs.List.{cons_option, filter_map, range_with_len}
use Rattle.std.proofs.lemmas.Bool.{cases_Bool, cases_lt}
use Rattle.std.proofs.lemmas.List.FromFn.{length-range_with_len}
use Rattle.std.proofs.lemmas.List.Sums.{count_by-le-length, get_or-le-sum_by, sum_by-cons, sum_by-set}

-- a link counts once, whichever of its halves_of_link is at (u, v)
abbrev pub weigh : Bool → ℕ
weigh b = cond b 1 0

-- an element that passes counts, and two that pass count twice
pub one_passes : {X : Type 0} (p : X → Bool) (xs : List X) (i : ℕ) (d : X) → i < length xs → p (get_or xs i d) ≡ true
    → 1 ≤ count_by p xs
one_passes {X} p xs i d l e =
    let weight : X → ℕ = λ x. cond (p x) 1 0 in
    let z : weight (get_or xs i d) ≡ 1 = rw e refl in
    omega (arith, get_or-le-sum_by weight xs i d l, z)

pub two_pass : {X : Type 0} (p : X → Bool) (xs : List X) (i j : ℕ) (d : X) → i < j → j < length xs
    → p (get_or xs i d) ≡ true → p (get_or xs j d) ≡ true → 2 ≤ count_by p xs
two_pass p [] i j d lt l e f = absurd (omega arith)
two_pass p (x ∷ xs) zero zero d lt l e f = absurd (omega arith)
two_pass {X} p (x ∷ xs) zero (suc j) d lt l e f =
    let weight : X → ℕ = λ y. cond (p y) 1 0 in
    let z : weight x ≡ 1 = rw e refl in
    omega (arith, sum_by-cons weight x xs, z, one_passes p xs j d (omega arith) f)
two_pass p (x ∷ xs) (suc i) zero d lt l e f = absurd (omega arith)
two_pass {X} p (x ∷ xs) (suc i) (suc j) d lt l e f =
    let weight : X → ℕ = λ y. cond (p y) 1 0 in
    omega (arith, sum_by-cons weight x xs, two_pass p xs i j d (omega arith) (omega arith) e f)

-- if no element passes, or no two do
pub none_pass : {X : Type 0} (p : X → Bool) (xs : List X)
    → ((j : ℕ) (d : X) → j < length xs → ¬ (p (get_or xs j d) ≡ true)) → count_by p xs ≡ 0
none_pass p [] bar = refl
none_pass {X} p (x ∷ xs) bar =
    let weight : X → ℕ = λ y. cond (p y) 1 0 in
    let fails : p x ≡ false = elim (cases_Bool (p x)) [ inl e ↦ absurd (bar 0 x (omega arith) e) | inr e ↦ e ] in
    let z : weight x ≡ 0 = rw fails refl in
    omega (arith, sum_by-cons weight x xs, z, none_pass p xs (λ j d l. bar (suc j) d (omega arith)))

pub at_most_one : {X : Type 0} (p : X → Bool) (xs : List X)
    → ((i j : ℕ) (d : X) → i < j → j < length xs → p (get_or xs i d) ≡ true → ¬ (p (get_or xs j d) ≡ true))
    → count_by p xs ≤ 1
at_most_one p [] bar = omega arith
at_most_one {X} p (x ∷ xs) bar =
    let weight : X → ℕ = λ y. cond (p y) 1 0 in
    let rest = at_most_one p xs (λ i j d lt l. bar (suc i) (suc j) d (omega arith) (omega arith)) in
    let whole = sum_by-cons weight x xs in
    elim (cases_Bool (p x)) [
      | inl e ↦
          let z : weight x ≡ 1 = rw e refl in
          omega (arith, whole, z, none_pass p xs (λ j d l. bar 0 (suc j) d (omega arith) (omega arith) e))
      | inr e ↦ let z : weight x ≡ 0 = rw e refl in omega (arith, whole, z, rest)
    ]

pub count_agrees : (p q : ℕ × ℕ → Bool) (links : List (ℕ × ℕ)) → ((x : ℕ × ℕ) → p x ≡ q x)
    → count_by p links ≡ count_by q links
count_agrees p q [] same = refl
count_agrees p q (x ∷ xs) same =
    let f : ℕ × ℕ → ℕ = λ y. weigh (p y) in
    let g : ℕ × ℕ → ℕ = λ y. weigh (q y) in
    let here : f x ≡ g x = ap weigh (same x) in
    omega (arith, sum_by-cons f x xs, sum_by-cons g x xs, here, count_agrees p q xs same)

pub cases_le_one : (n : ℕ) → (n ≤ 1) ⊎ (2 ≤ n)
cases_le_one n = elim (cases_lt 1 n) [ inl l ↦ inr (omega arith) | inr g ↦ inl g ]

-- as many values of `filter_map` pass a test as there are elements whose value passes it
pub passes : {Y : Type 0} → (Y → Bool) → Option Y → Bool
passes p None = false
passes p (Some y) = p y

count-cons_option : {Y : Type 0} (p : Y → Bool) (o : Option Y) (ys : List Y)
    → count_by p (cons_option o ys) ≡ weigh (passes p o) + count_by p ys
unfolding passes
count-cons_option p None ys = omega arith
count-cons_option {Y} p (Some y) ys = let weight : Y → ℕ = λ z. weigh (p z) in sum_by-cons weight y ys

pub count-filter_map : {X Y : Type 0} (p : Y → Bool) (f : X → Option Y) (xs : List X)
    → count_by p (filter_map f xs) ≡ count_by (λ x. passes p (f x)) xs
count-filter_map p f [] = refl
count-filter_map {X} p f (x ∷ xs) =
    let weight : X → ℕ = λ y. weigh (passes p (f y)) in
    omega (arith, count-cons_option p (f x) (filter_map f xs), sum_by-cons weight x xs, count-filter_map p f xs)

-- two tests that agree below a + n count equally
pub count-range_agree : (p q : ℕ → Bool) (a n : ℕ) → ((x : ℕ) → x < a + n → p x ≡ q x)
    → count_by p (range_with_len a n) ≡ count_by q (range_with_len a n)
count-range_agree p q a zero same = refl
count-range_agree p q a (suc n) same =
    let f : ℕ → ℕ = λ x. cond (p x) 1 0 in
    let g : ℕ → ℕ = λ x. cond (q x) 1 0 in
    let here : f a ≡ g a = ap (λ (b : Bool). cond b 1 0) (same a (omega arith)) in
    omega (
      arith,
      sum_by-cons f a (range_with_len (a + 1) n),
      sum_by-cons g a (range_with_len (a + 1) n),
      here,
      count-range_agree p q (a + 1) n (λ x l. same x (omega arith)),
    )

count-range_next : (p : ℕ → Bool) (a n k : ℕ) → a + n ≡ k
    → count_by p (range_with_len a (suc n)) ≡ count_by p (range_with_len a n) + cond (p k) 1 0
count-range_next p a zero k is =
    let f : ℕ → ℕ = λ x. cond (p x) 1 0 in
    let here : f a ≡ f k = ap f (omega arith) in
    omega (arith, sum_by-cons f a [], here)
count-range_next p a (suc n) k is =
    let f : ℕ → ℕ = λ x. cond (p x) 1 0 in
    omega (
      arith,
      sum_by-cons f a (range_with_len (a + 1) (suc n)),
      sum_by-cons f a (range_with_len (a + 1) n),
      count-range_next p (a + 1) n k (omega arith),
    )

-- how many of the numbers from 0 on pass a test, with one more number
pub count-range_more : (p : ℕ → Bool) (n : ℕ)
    → count_by p (range_with_len 0 (n + 1)) ≡ count_by p (range_with_len 0 n) + cond (p n) 1 0
count-range_more p n = rw add-one (count-range_next p 0 n n (zero-add n))

pub count-range-le : (p : ℕ → Bool) (a n : ℕ) → count_by p (range_with_len a n) ≤ n
count-range-le p a n = omega (arith, count_by-le-length p (range_with_len a n), length-range_with_len a n)

pub count_by-map : {X Y : Type 0} (p : Y → Bool) (f : X → Y) (xs : List X)
    → count_by p (map f xs) ≡ count_by (λ x. p (f x)) xs
count_by-map p f [] = refl
count_by-map {X} {Y} p f (x ∷ xs) =
    omega (
      arith,
      sum_by-cons (λ (y : Y). cond (p y) 1 0) (f x) (map f xs),
      sum_by-cons (λ (z : X). cond (p (f z)) 1 0) x xs,
      count_by-map p f xs,
    )

-- after an element is replaced
pub count_by-set : {X : Type 0} (p : X → Bool) (xs : List X) (i : ℕ) (y d : X) → i < length xs
    → count_by p (set xs i y) + count_by p (get_or xs i d ∷ []) ≡ count_by p xs + count_by p (y ∷ [])
count_by-set {X} p xs i y d l =
    let h = sum_by-set (λ (x : X). cond (p x) 1 0) xs i y d l in
    omega (arith, h)
