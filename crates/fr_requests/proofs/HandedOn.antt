-- What a `?` and a `then_some` return.
use Rattle.std.proofs.Common.{Bool, Err, Ok, Result, false, refl, subst, sym, true, ◌≡◌, ◌≢◌}
use Rattle.std.specs.Bool.{then_some}
use Rattle.std.specs.Option.{IfSome}
use Rattle.std.specs.Result.{IfErr, IsErrAnd}
use Rattle.fr_requests.specs.declared.requests.LineFault.{LineFault}
use Rattle.fr_requests.specs.declared.requests.LineFault.TheVariants.{Memory}

-- a fault other than missing memory is also the fault of what follows
pub handed_on : {T : Type 0} (why : LineFault) (P : Type 0) (r : Result T LineFault) (f : LineFault)
    → IsErrAnd r (λ fault. fault ≡ f)
    → (f ≢ Memory → (f ≡ why) × P) → IfErr r (λ fault. fault ≢ Memory → (fault ≡ why) × P)
handed_on why P (Ok x) f is refused = tt
handed_on why P (Err fault) f is refused = subst (λ e. e ≢ Memory → (e ≡ why) × P) (sym is) refused

-- what holds of a value if the test succeeds, holds of the result of `then_some`
pub if_then_some : {T : Type 0} (P : T → Type 0) (test : Bool) (x : T) → (test ≡ true → P x)
    → IfSome (then_some test x) P
if_then_some P true x holds = holds refl
if_then_some P false x holds = tt
