-- Elements of a list with one more in front.
use Rattle.std.proofs.Common.{Contains, List, [], arith, inl, inr, refl, suc, zero, ◌∷◌, ◌≡◌, ◌⊎◌}

pub Contains-none : {X : Type 0} (x : X) → ¬ Contains [] x
Contains-none x c = omega (arith, c.1)

pub Contains-head : {X : Type 0} (x : X) (xs : List X) → Contains (x ∷ xs) x
Contains-head x xs = (0, omega arith, refl)

pub Contains-tail : {X : Type 0} (x y : X) (xs : List X) → Contains xs x → Contains (y ∷ xs) x
Contains-tail x y xs (k, l, e) = (suc k, omega (arith, l), e)

pub Contains-cases : {X : Type 0} (x y : X) (xs : List X) → Contains (y ∷ xs) x → (y ≡ x) ⊎ Contains xs x
Contains-cases x y xs (zero, l, e) = inl e
Contains-cases x y xs (suc k, l, e) = inr (k, omega (arith, l), e)
