-- What a session does with a request, by any way to settle networks. For proofs only.
use Rattle.std.specs.Prelude.{◌≡◌, ◌≢◌, ℕ, ◌≤◌, ◌⊎◌, true, false, length, List, Option, Result}
use Rattle.std.specs.Prelude.{String, IfOk, IfErr, IfSome, IfNone, OnErr, string_bytes}
use Rattle.std.specs.declared.alloc.Global.{Global}
use Rattle.fr_requests.specs.Requests.{PlainRequest, reading}
use Rattle.fr_requests.specs.declared.requests.LineFault.{LineFault}
use Rattle.fr_route.specs.Answers.{IsLineAnswer, MayStartForLine}
use Rattle.fr_route.specs.Blank.{is_blank}
use Rattle.fr_route.specs.Listing.{IsListing, nodes_told}
use Rattle.fr_route.specs.States.{State}
use Rattle.fr_route.specs.Texts.{longest_report}
use Rattle.fr_route.specs.Telling.{IsLineTold}
use Rattle.fr_route.specs.declared.fault.AnswerFault.{AnswerFault}
use Rattle.fr_route.specs.declared.fault.AnswerFault.TheVariants.{Start}
use Rattle.fr_route.specs.declared.changed_nodes.ChangedNodes.{ChangedNodes}

-- The answer to what was read of a line, the state after it, and the list of rerouted nodes. With `never`, the way to
-- settle starts no thread.
pub record IsAnswered (never : Type 0) (s : Option State) (asked : Result PlainRequest LineFault) (told : ChangedNodes)
    (answer : Result (String Global) AnswerFault) (next : Option State) (more : ChangedNodes) : Type 0 where
  pub text : IfOk answer (λ text. IsLineAnswer s asked (string_bytes text) next)
  pub tells : IsListing told → IfOk answer (λ _. IsLineTold s asked next (nodes_told told) (nodes_told more))
  pub unchanged : OnErr answer ((next ≡ s) × (nodes_told more ≡ nodes_told told))
  pub short : IfOk answer (λ text. ((next ≡ s) × (nodes_told more ≡ nodes_told told))
      ⊎ (length (string_bytes text) ≤ longest_report))
  pub start : IfErr answer (λ fault. fault ≡ Start → MayStartForLine s asked)
  pub no_start : never → IfErr answer (λ fault. fault ≢ Start)

-- the same for a line. A blank line has no answer and changes nothing
pub record IsLineAnswered (never : Type 0) (s : Option State) (line : List ℕ) (told : ChangedNodes)
    (answer : Result (Option (String Global)) AnswerFault) (next : Option State) (more : ChangedNodes) : Type 0 where
  pub blank : IfOk answer (λ a. IfNone a ((is_blank line ≡ true) × (next ≡ s) × (nodes_told more ≡ nodes_told told)))
  pub text : IfOk answer
      (λ a. IfSome a (λ text. (is_blank line ≡ false) × IsLineAnswer s (reading line) (string_bytes text) next))
  pub tells : IsListing told
      → IfOk answer (λ a. IfSome a (λ _. IsLineTold s (reading line) next (nodes_told told) (nodes_told more)))
  pub unchanged : OnErr answer ((is_blank line ≡ false) × (next ≡ s) × (nodes_told more ≡ nodes_told told))
  pub short : IfOk answer
      (λ a. IfSome a (λ text. ((next ≡ s) × (nodes_told more ≡ nodes_told told))
      ⊎ (length (string_bytes text) ≤ longest_report)))
  pub start : IfErr answer (λ fault. fault ≡ Start → MayStartForLine s (reading line))
  pub no_start : never → IfErr answer (λ fault. fault ≢ Start)
