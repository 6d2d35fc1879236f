-- The state of a conversation between the pieces of an input, and its answers. This project's own.
use Rattle.std.specs.Prelude.{◌≡◌, ◌≢◌, ◌==◌, ℕ, ◌+◌, true, List, [], ◌∷◌}
use Rattle.std.specs.Prelude.{◌++◌, length, min, Option, String, string_bytes}
use Rattle.std.specs.List.{before_first, position_or_len}
use Rattle.std.specs.Option.{option_map_or}
use Rattle.std.specs.Io.KnownBytes.{Appends}
use Rattle.fr_route.specs.Blank.{is_blank}
use Rattle.fr_route.specs.States.{State}
use Rattle.fr_route.specs.declared.form.Form.{Form}
use Rattle.fr_route.specs.declared.form.Form.TheVariants.{Text}
use Rattle.fr_bytes.specs.Lines.{lines_of}
use Rattle.fr_command.specs.Points.{Point, AreAnswersIn, first_point}

-- the form of the answers; the state after the lines that have ended, how many these are, and how many of them were
-- answered and refused; and the line that has begun after them
pub record Talk : Type 0 where
  pub form : Form
  pub state : Option State
  pub ended : ℕ
  pub answered : ℕ
  pub refused : ℕ
  pub begun : List ℕ

-- the point after the lines that have ended
abbrev pub point_of : Talk → Point
point_of talk = record { state = talk.state; ended = talk.ended; answered = talk.answered; refused = talk.refused }

-- a conversation in this form, at this point, in a line that has begun
abbrev pub talk_at : Form → Point → List ℕ → Talk
talk_at form point begun = record {
  form = form;
  state = point.state;
  ended = point.ended;
  answered = point.answered;
  refused = point.refused;
  begun = begun;
}

-- the conversation in this form before any bytes
abbrev pub silence_in : Form → Talk
silence_in form = talk_at form first_point []

-- the same, with answers as text
abbrev pub silence : Talk
silence = silence_in Text

-- the answer to these bytes: the answers to the lines that end in them. The bytes after the last newline are the line
-- that has begun
pub record Takes (old : Talk) (bytes text : List ℕ) (new : Talk) : Type 0 where
  pub ended : List (List ℕ)
  pub cut : lines_of (old.begun ++ bytes) ≡ ended ++ new.begun ∷ []
  pub are_answers : AreAnswersIn old.form (point_of old) ended text (point_of new)
  pub same_form : new.form ≡ old.form

-- the input ends, and so the line that has begun ends
abbrev pub Ends : Talk → List ℕ → Talk → Type 0
Ends old text new =
    AreAnswersIn old.form (point_of old) (old.begun ∷ []) text (point_of new) × (new.begun ≡ []) × (new.form ≡ old.form)

-- the line that has begun, with the bytes of this piece up to its first newline
abbrev pub carried : Talk → List ℕ → List ℕ
carried talk piece = talk.begun ++ before_first (λ x. x == 10) piece

-- a line with these bytes may need memory: it is not empty, and if it is blank, it does not end in these bytes
abbrev pub MayWantMemory : List ℕ → List ℕ → Type 0
MayWantMemory line bytes = (line ≢ []) × (is_blank line ≡ true → lines_of bytes ≡ bytes ∷ [])

-- how many bytes of a piece are in its first line, with its newline
abbrev pub line_size : List ℕ → ℕ
line_size piece = min (position_or_len (λ x. x == 10) piece + 1) (length piece)

-- an answer with byte 10 after it, if there is one
abbrev pub text_of : {Z : Type 0} → Option (String Z) → List ℕ
text_of answer = option_map_or (λ text. string_bytes text ++ 10 ∷ []) answer []

-- these bytes were taken, and exactly the answer to them was written
pub record Says (old : Talk) (bytes : List ℕ) (new : Talk) (before after : Option (List ℕ)) : Type 0 where
  pub text : List ℕ
  pub takes : Takes old bytes text new
  pub writes : Appends before after text

-- exactly the answers, in this form, to the lines of these bytes before this line were written
pub record AnswersBefore (form : Form) (bytes line : List ℕ) (old new : Option (List ℕ)) : Type 0 where
  pub before : List (List ℕ)
  pub behind : List (List ℕ)
  pub text : List ℕ
  pub last : Point
  pub cut : lines_of bytes ≡ before ++ line ∷ behind
  pub are_answers : AreAnswersIn form first_point before text last
  pub writes : Appends old new text
