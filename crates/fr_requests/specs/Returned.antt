-- How what was read is returned. For proofs only.
use Rattle.std.specs.Prelude.{List, [], ◌∷◌, ◌++◌, Option, Some, Result, Ok, Err, IfOk, IfErr, ◌≡◌, ◌≢◌}
use Rattle.serde_json.specs.Data.{Data}
use Rattle.fr_requests.specs.declared.requests.LineFault.{LineFault}
use Rattle.fr_requests.specs.declared.requests.LineFault.TheVariants.{Memory}
use Rattle.fr_requests.specs.declared.requests.Request.{Request}
use Rattle.fr_requests.specs.Requests.{PlainRequest, plain}

-- the answer is this reading, unless an allocation was refused
abbrev pub Tells : Result PlainRequest LineFault → Result Request LineFault → Type 0
Tells reading answer = IfOk answer (λ request. reading ≡ Ok (plain request))
    × IfErr answer (λ fault. fault ≢ Memory → reading ≡ Err fault)

-- the item is read as one thing, which is appended to those before it
abbrev pub IsReadNext : {X : Type 0} → (Data → Option X) → List X → Data → List X → Type 0
IsReadNext {X} read_one before item after = (x : X) × (read_one item ≡ Some x) × (after ≡ before ++ x ∷ [])
