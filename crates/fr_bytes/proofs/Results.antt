-- What holds if a result is an error, or if it is not, holds of the result.
use Rattle.std.proofs.Common.{◌≡◌, Result, Ok, Err, IfErr, IsErrAnd, OnErr, OnOk, subst, sym}

pub on_ok : {T E : Type 0} (r : Result T E) (P : Type 0) → P → OnOk r P
on_ok (Ok x) P h = h
on_ok (Err e) P h = tt

pub on_err : {T E : Type 0} (r : Result T E) (P : Type 0) → P → OnErr r P
on_err (Ok x) P h = tt
on_err (Err e) P h = h

-- what holds of a fault holds of the result of the `?` that returns it
pub handed_on : {T E : Type 0} (r : Result T E) (fault : E) (P : E → Type 0) → IsErrAnd r (λ y. y ≡ fault) → P fault
    → IfErr r P
handed_on (Ok x) fault P is h = tt
handed_on (Err y) fault P is h = subst P (sym is) h

-- what holds of the only fault of a call holds of its result
pub only_fault : {T E : Type 0} (r : Result T E) (one : E) (P : E → Type 0) → IfErr r (λ fault. fault ≡ one) → P one
    → IfErr r P
only_fault (Ok x) one P only h = tt
only_fault (Err y) one P only h = subst P (sym only) h

-- what follows from what holds if a call fails holds of its only fault
pub of_the_fault : {T E : Type 0} (r : Result T E) (one : E) (P : E → Type 0) (Q : Type 0)
    → IfErr r (λ fault. fault ≡ one) → OnErr r Q → (Q → P one) → IfErr r P
of_the_fault (Ok x) one P Q only h f = tt
of_the_fault (Err y) one P Q only h f = subst P (sym only) (f h)
