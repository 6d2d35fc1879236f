-- Whether a flag of the command line was given.
use Rattle.std.proofs.Common.{◌≡◌, ◌↔◌, ◌∙◌, ℕ, List, Bool, true, false, Option, Some, None, codes, slice_index, ap}
use Rattle.std.proofs.Common.{sym, refl, arith}
use Rattle.std.specs.Prelude.{IsTrue, unwrap_or}
use Rattle.std.specs.Str.Parse.{ParsesBool}
use Rattle.clap.specs.Words.{Text, rows_of, one_text, ReadsOne}
use Rattle.clap.proofs.WalkLemmas.{one_text-rows}
use Rattle.clap.specs.declared.parser.matches.Found.{Found}
use Rattle.fr_cli.specs.Commands.{IsGiven}

-- a getter reads `true` exactly if the flag was given
pub flag_read : (E : Type 0) (f : Found) (name : Text) (r : Option Bool) → (one_text f name ≡ None → r ≡ None)
    → ((t : List ℕ) → one_text f name ≡ Some t → ReadsOne {T = Bool} {E = E} ParsesBool t r)
    → IsTrue (unwrap_or r false) ↔ IsGiven name (rows_of f)
flag_read E f name (Some true) none value = (λ _. go (one_text f name) refl, λ _. refl)
  where
    go : (o : Option (List ℕ)) → one_text f name ≡ o → IsGiven name (rows_of f)
    go None e = let bad = none e in cc
    go (Some t) e = sym (one_text-rows f name) ∙ (e ∙ ap Some (value t e))
flag_read E f name (Some false) none value = (
  λ bad. cc,
  λ given. let other = value (codes "true") (one_text-rows f name ∙ given) in
      let bad : 116 ≡ 102 = ap (λ (t : List ℕ). slice_index t 0) other in absurd (omega arith),
)
flag_read E f name None none value = (
  λ bad. cc,
  λ given. let other = value (codes "true") (one_text-rows f name ∙ given) in absurd (other.1.0 refl),
)
