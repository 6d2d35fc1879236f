-- Sums of what a function gives, over a list of different numbers and over the numbers below n.
use Rattle.std.proofs.Common.{Contains, List, [], arith, cond, eq-eqb, eqb, false, ne_eqb, suc, zero, ℕ, ⊎_elim, ◌∷◌}
use Rattle.std.proofs.Common.{◌+◌, ◌<◌, ◌≡◌, ◌≢◌, ◌≤◌, refl}
use Rattle.std.specs.List.{AllByRecursion, IsDistinct}
use Rattle.std.proofs.lemmas.Bool.{cases_eq}
use Rattle.std.proofs.lemmas.Map.Keys.{IsDistinct-head, IsDistinct-tail}
use Rattle.fr_node.proofs.Members.{Contains-head, Contains-tail}

unfoldable pub over : (ℕ → ℕ) → List ℕ → ℕ
over f [] = 0
over f (x ∷ xs) = f x + over f xs

unfoldable pub below : (ℕ → ℕ) → ℕ → ℕ
below f zero = 0
below f (suc n) = f n + below f n

pub below_none : (f : ℕ → ℕ) → ((x : ℕ) → f x ≡ 0) → (n : ℕ) → below f n ≡ 0
unfolding below
below_none f each zero = refl
below_none f each (suc n) = omega (arith, each n, below_none f each n)

pub below_most : (f g : ℕ → ℕ) (n : ℕ) → ((x : ℕ) → x < n → f x ≤ g x) → below f n ≤ below g n
unfolding below
below_most f g zero each = omega arith
below_most f g (suc n) each = omega (
  arith,
  each n (omega arith),
  below_most f g n (λ x l. each x (omega (arith, l))),
)

-- at one number the first may be greater
pub below_but_one : (f g : ℕ → ℕ) (x d : ℕ) → ((k : ℕ) → k ≢ x → f k ≤ g k) → f x ≤ g x + d → (n : ℕ)
    → below f n ≤ below g n + d
unfolding below
below_but_one f g x d others there zero = omega arith
below_but_one f g x d others there (suc n) = ⊎_elim
    (λ e. rw e (omega (arith, there, below_most f g x (λ k l. others k (λ same. omega (arith, same, l))))))
    (λ other. omega (arith, others n other, below_but_one f g x d others there n))
    (cases_eq n x)

-- the function without what it gives at x
but : (ℕ → ℕ) → ℕ → ℕ → ℕ
but f x k = cond (eqb x k) 0 (f k)

but_there : (f : ℕ → ℕ) (x : ℕ) → but f x x ≡ 0
unfolding but
but_there f x = rw (eq-eqb x x refl) refl

but_others : (f : ℕ → ℕ) (x k : ℕ) → eqb x k ≡ false → but f x k ≡ f k
unfolding but
but_others f x k e = rw e refl

over_but : (f : ℕ → ℕ) (x : ℕ) (xs : List ℕ) → AllByRecursion (λ y. eqb x y ≡ false) xs
    → over f xs ≤ over (but f x) xs
unfolding over
over_but f x [] apart = omega arith
over_but f x (y ∷ ys) apart = omega (arith, but_others f x y apart.0, over_but f x ys apart.1)

below_but : (f : ℕ → ℕ) (x n : ℕ) → x < n → f x + below (but f x) n ≤ below f n
unfolding below
below_but f x zero l = absurd (omega (arith, l))
below_but f x (suc n) l = ⊎_elim
    (λ e. rw e (omega (
      arith,
      but_there f x,
      below_most (but f x) f x (λ k less. omega
          (arith, but_others f x k (ne_eqb x k (λ same. omega (arith, same, less))))),
    )))
    (λ other. omega (
      arith,
      but_others f x n (ne_eqb x n (λ same. other (omega (arith, same)))),
      below_but f x n (omega (arith, l, other)),
    ))
    (cases_eq n x)

pub over_below : (xs : List ℕ) (f : ℕ → ℕ) (n : ℕ) → IsDistinct eqb xs → ((x : ℕ) → Contains xs x → x < n)
    → over f xs ≤ below f n
unfolding over
over_below [] f n distinct within = omega arith
over_below (x ∷ xs) f n distinct within = omega (
  arith,
  over_but f x xs (IsDistinct-head eqb x xs distinct),
  over_below xs (but f x) n (IsDistinct-tail eqb x xs distinct) (λ y h. within y (Contains-tail y x xs h)),
  below_but f x n (within x (Contains-head x xs)),
)
