-- The answer to a line, in each form, and which lines are refused. This project's own.
use Rattle.std.specs.Prelude.{ℕ, List, Option, Result, Ok, Err}
use Rattle.fr_requests.specs.Requests.{PlainRequest}
use Rattle.fr_requests.specs.declared.requests.LineFault.{LineFault}
use Rattle.fr_requests.specs.declared.requests.LineFault.TheVariants.{NotJson, NotRequest, Memory}
use Rattle.fr_route.specs.Answers.{IsLineAnswer, IsRefused}
use Rattle.fr_route.specs.Json.{EndsHere, EndsWithWays, IsJsonLineAnswer}
use Rattle.fr_route.specs.States.{State}
use Rattle.fr_route.specs.declared.form.Form.{Form}
use Rattle.fr_route.specs.declared.form.Form.TheVariants.{Text, Json, JsonWithWays}

-- the answer in this form to the line with this number, which was read with this result, and the state after it
abbrev pub IsAnswerIn : Form → ℕ → Option State → Result PlainRequest LineFault → List ℕ → Option State → Type 0
IsAnswerIn Text number s asked text next = IsLineAnswer s asked text next
IsAnswerIn Json number s asked text next = IsJsonLineAnswer EndsHere number s asked text next
IsAnswerIn JsonWithWays number s asked text next = IsJsonLineAnswer EndsWithWays number s asked text next

-- a line that was read with this result is refused in this state
abbrev pub IsLineRefused : Option State → Result PlainRequest LineFault → Type 0
IsLineRefused s (Ok request) = (number : ℕ) × IsRefused s request number
IsLineRefused s (Err NotJson) = Unit {0}
IsLineRefused s (Err NotRequest) = Unit {0}
IsLineRefused s (Err Memory) = ⊥
