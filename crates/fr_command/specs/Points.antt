-- The answers to lines, one after the other, in each form, and how many lines there are. This project's own.
use Rattle.std.specs.Prelude.{◌≡◌, ◌↔◌, ◌+◌, ◌-◌, ◌^◌, ℕ, Bool, IsTrue, List, []}
use Rattle.std.specs.Prelude.{◌∷◌, ◌++◌, MatchBool, min, if◌then◌else◌, Option, None, false}
use Rattle.fr_requests.specs.Requests.{reading}
use Rattle.fr_route.specs.Answers.{MayStartForLine}
use Rattle.fr_route.specs.Blank.{is_blank}
use Rattle.fr_route.specs.Forms.{IsAnswerIn, IsLineRefused}
use Rattle.fr_route.specs.States.{State}
use Rattle.fr_route.specs.declared.form.Form.{Form}

-- a count of lines with one more. It ends at 18,446,744,073,709,551,615
abbrev pub one_more : ℕ → ℕ
one_more count = min (count + 1) (2 ^ 64 - 1)

-- a place between the lines of an input: the state there, and how many lines before it have ended, were answered, and
-- were refused
pub record Point : Type 0 where
  pub state : Option State
  pub ended : ℕ
  pub answered : ℕ
  pub refused : ℕ

-- before the first line
abbrev pub first_point : Point
first_point = record { state = None; ended = 0; answered = 0; refused = 0 }

-- after a blank line
abbrev pub after_blank : Point → Point
after_blank point = record point { ended = one_more point.ended }

-- after a line that was answered, which led to this state, and refused or not
abbrev pub after_answer : Point → Bool → Option State → Point
after_answer point is_refused next = record {
  state = next;
  ended = one_more point.ended;
  answered = one_more point.answered;
  refused = if is_refused then one_more point.refused else point.refused;
}

-- the answer to a line that is not blank, whether it refuses the line, and the state after it. The number of the line
-- counts blank lines too
abbrev pub IsAnswerAt : Form → Point → List ℕ → List ℕ → Bool → Option State → Type 0
IsAnswerAt form point line text is_refused next =
    IsAnswerIn form (one_more point.ended) point.state (reading line) text next
    × (IsTrue is_refused ↔ IsLineRefused point.state (reading line))

-- a line may need a thread at this point: it is not blank, it is accepted, and a node can turn on the network that it
-- makes
abbrev pub MayStartAt : Point → List ℕ → Type 0
MayStartAt point line = (is_blank line ≡ false) × MayStartForLine point.state (reading line)

-- the answers to lines in this form, each followed by byte 10, and the point after them. A blank line has no answer
abbrev pub AreAnswersIn : Form → Point → List (List ℕ) → List ℕ → Point → Type 0
AreAnswersIn form old [] out new = (out ≡ []) × (new ≡ old)
AreAnswersIn form old (line ∷ rest) out new =
    MatchBool (is_blank line) (AreAnswersIn form (after_blank old) rest out new)
    ((text : List ℕ) × (is_refused : Bool) × (next : Option State) × (more : List ℕ)
    × IsAnswerAt form old line text is_refused next
    × AreAnswersIn form (after_answer old is_refused next) rest more new × (out ≡ (text ++ 10 ∷ []) ++ more))
