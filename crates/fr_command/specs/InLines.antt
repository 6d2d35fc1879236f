-- Why a line, or the lines of an input, are not all answered, and what was written by then. For proofs only.
use Rattle.std.specs.Prelude.{◌≡◌, ℕ, false, List, [], ◌∷◌, Option}
use Rattle.std.specs.Io.KnownBytes.{Appends, Keeps}
use Rattle.fr_route.specs.Blank.{is_blank}
use Rattle.fr_route.specs.declared.fault.AnswerFault.{AnswerFault}
use Rattle.fr_route.specs.declared.fault.AnswerFault.TheVariants.{Start as StartAnswer, Memory as MemoryAnswer}
use Rattle.fr_route.specs.declared.form.Form.{Form}
use Rattle.fr_bytes.specs.Bytes.{IsBeginning}
use Rattle.fr_bytes.specs.declared.fault.RunFault.{RunFault}
use Rattle.fr_bytes.specs.declared.fault.RunFault.TheVariants.{Read, Write, TooLong, Start, Memory}
use Rattle.fr_command.specs.Outputs.{WritesBeginning, StopsAtLine}
use Rattle.fr_command.specs.Points.{Point, AreAnswersIn, MayStartAt}

-- a prefix of the answer to this line in this form was written, at this point
pub record BeginsAnswer (form : Form) (point : Point) (line : List ℕ) (before after : Option (List ℕ)) : Type 0 where
  pub answer : List ℕ
  pub last : Point
  pub out : List ℕ
  pub are_answers : AreAnswersIn form point (line ∷ []) answer last
  pub begins : IsBeginning out answer
  pub writes : Appends before after out

-- why a session does not answer a line at this point: the line may need a thread, which is missing; or it is not blank,
-- and memory is missing
abbrev pub IsUnanswered : (point : Point) (line : List ℕ) → AnswerFault → Type 0
IsUnanswered point line StartAnswer = MayStartAt point line
IsUnanswered point line MemoryAnswer = is_blank line ≡ false

-- why a line is not answered: a write failed; or a thread or memory is missing for the line, and nothing was written
abbrev pub IsLineFault : (form : Form) (point : Point) (line : List ℕ) (before after : Option (List ℕ)) → RunFault
    → Type 0
IsLineFault form point line before after Read = ⊥
IsLineFault form point line before after Write = BeginsAnswer form point line before after
IsLineFault form point line before after TooLong = ⊥
IsLineFault form point line before after Start = MayStartAt point line × Keeps before after
IsLineFault form point line before after Memory = (is_blank line ≡ false) × Keeps before after

-- why the lines of an input are not all answered: a write failed, or a thread or memory is missing for a line
abbrev pub IsAnsweringFault : (form : Form) (bytes : List ℕ) (before after : Option (List ℕ)) → RunFault → Type 0
IsAnsweringFault form bytes before after Read = ⊥
IsAnsweringFault form bytes before after Write = WritesBeginning form bytes before after
IsAnsweringFault form bytes before after TooLong = ⊥
IsAnsweringFault form bytes before after Start =
    (stop : StopsAtLine form bytes before after) × MayStartAt stop.last stop.line
IsAnsweringFault form bytes before after Memory = StopsAtLine form bytes before after
