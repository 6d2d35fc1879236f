-- What a getter reads of an option of the command line.
use Rattle.std.proofs.Common.{◌≡◌, ◌<◌, ◌^◌, ◌∙◌, ℕ, List, Option, Some, None, Result, Ok, Err}
use Rattle.std.proofs.Common.{IfSome, IsNone, ap, sym, refl, arith}
use Rattle.std.specs.Str.Parse.{ParsesUnsigned}
use Rattle.clap.specs.Words.{Text, rows_of, one_text, ReadsOne}
use Rattle.clap.proofs.WalkLemmas.{one_text-rows}
use Rattle.clap.specs.declared.parser.matches.Found.{Found}
use Rattle.fr_cli.specs.Commands.{number_of, HasNumber}

pub number_read : (E : Type 0) (k : ℕ) (G : List ℕ → Result ℕ E → Type 0) (f : Found) (name : Text)
    → ((u : List ℕ) (x : Result ℕ E) → G u x → ParsesUnsigned k 10 u x)
    → (r : Option ℕ) → (one_text f name ≡ None → r ≡ None) → ((t : List ℕ) → one_text f name ≡ Some t → ReadsOne G t r)
    → IfSome r (λ n. number_of name (rows_of f) ≡ Some n)
number_read E k G f name parses None none value = tt
number_read E k G f name parses (Some n) none value = go (one_text f name) refl
  where
    go : (o : Option (List ℕ)) → one_text f name ≡ o → number_of name (rows_of f) ≡ Some n
    go None e = let bad = none e in cc
    go (Some t) e =
        let is = (parses t (Ok n) (value t e)).1 in
        rw (← one_text-rows f name, e) (ap Some (sym is))

-- if it reads no number of at most `most`, the option was given no such number
pub number_not_read : (E : Type 0) (k most : ℕ) (G : List ℕ → Result ℕ E → Type 0) (f : Found) (name : Text)
    → ((u : List ℕ) (x : Result ℕ E) → G u x → ParsesUnsigned k 10 u x) → most < 2 ^ k
    → (r : Option ℕ) → ((t : List ℕ) → one_text f name ≡ Some t → ReadsOne G t r) → IfSome r (λ n. most < n)
    → ¬ HasNumber most name (rows_of f)
number_not_read E k most G f name parses few None value above has =
    let read = value has.0 (one_text-rows f name ∙ has.1) in
    parses has.0 (Err read.0) read.1 (has.2.0, omega (arith, has.2.1, few))
number_not_read E k most G f name parses few (Some n) value above has =
    let read = parses has.0 (Ok n) (value has.0 (one_text-rows f name ∙ has.1)) in
    omega (arith, has.2.1, above, read.1)

-- nor was it if it reads no number
pub nothing_read : (E : Type 0) (k most : ℕ) (G : List ℕ → Result ℕ E → Type 0) (f : Found) (name : Text)
    → ((u : List ℕ) (x : Result ℕ E) → G u x → ParsesUnsigned k 10 u x) → most < 2 ^ k
    → (r : Option ℕ) → ((t : List ℕ) → one_text f name ≡ Some t → ReadsOne G t r) → IsNone r
    → ¬ HasNumber most name (rows_of f)
nothing_read E k most G f name parses few None value none = number_not_read E k most G f name parses few None value tt
nothing_read E k most G f name parses few (Some n) value none = λ _. cc
