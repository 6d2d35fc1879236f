-- Tests as numbers, and how many elements of a list pass a test.
use Rattle.std.proofs.Common.{Bool, Contains, List, [], ap, arith, cond, false, refl, true, ℕ, ⊎_elim, ◌∷◌, ◌+◌, ◌≡◌}
use Rattle.std.proofs.Common.{◌≤◌, ◌⊎◌, ◌∙◌}
use Rattle.std.specs.List.{count_by}
use Rattle.std.proofs.lemmas.Bool.{cases_Bool}
use Rattle.std.proofs.lemmas.List.Sums.{sum_by-cons}
use Rattle.fr_node.proofs.Members.{Contains-cases, Contains-none}

-- 1 if the test passes, and else 0
unfoldable pub one : Bool → ℕ
one b = cond b 1 0

pub one_facts : (a : Bool) → (one a ≤ 1) × (a ≡ false → one a ≡ 0) × (a ≡ true → one a ≡ 1)
unfolding one
one_facts a = (
  ⊎_elim (λ t. rw t (omega arith)) (λ f. rw f (omega arith)) (cases_Bool a),
  λ f. rw f refl,
  λ t. rw t refl,
)

-- at most the tests that pass if a does
pub one_of_two : (a b c : Bool) → (a ≡ true → (b ≡ true) ⊎ (c ≡ true)) → one a ≤ one b + one c
one_of_two a b c h = ⊎_elim
    (λ t. ⊎_elim
    (λ y. omega (arith, (one_facts b).2 y, (one_facts a).0))
    (λ y. omega (arith, (one_facts c).2 y, (one_facts a).0))
    (h t))
    (λ f. omega (arith, (one_facts a).1 f))
    (cases_Bool a)

pub one_most : (a b : Bool) → (a ≡ true → b ≡ true) → one a ≤ one b
one_most a b h = ⊎_elim
    (λ t. omega (arith, (one_facts b).2 (h t), (one_facts a).0))
    (λ f. omega (arith, (one_facts a).1 f))
    (cases_Bool a)

module _ {X : Type 0} where
  pub count_cons : (f : X → Bool) (x : X) (xs : List X) → count_by f (x ∷ xs) ≡ one (f x) + count_by f xs
  unfolding one
  count_cons f x xs = sum_by-cons (λ (y : X). cond (f y) 1 0) x xs

  module _ (f g : X → Bool) (wider : (x : X) → f x ≡ true → g x ≡ true) where
    pub count_most : (xs : List X) → count_by f xs ≤ count_by g xs
    count_most [] = omega arith
    count_most (x ∷ xs) = omega (
      arith,
      count_cons f x xs,
      count_cons g x xs,
      one_most (f x) (g x) (wider x),
      count_most xs,
    )

    -- less, if some element passes the second test alone
    pub count_less : (xs : List X) (x : X) → Contains xs x → f x ≡ false → g x ≡ true
        → count_by f xs + 1 ≤ count_by g xs
    count_less [] x c fails passes = absurd (Contains-none x c)
    count_less (y ∷ xs) x c fails passes = ⊎_elim
        (λ e. omega (
          arith,
          count_cons f y xs,
          count_cons g y xs,
          (one_facts (f y)).1 (ap f e ∙ fails),
          (one_facts (g y)).2 (ap g e ∙ passes),
          count_most xs,
        ))
        (λ there. omega (
          arith,
          count_cons f y xs,
          count_cons g y xs,
          one_most (f y) (g y) (wider y),
          count_less xs x there fails passes,
        ))
        (Contains-cases x y xs c)
