-- The output of a run, defined by docs/LINES.md. This project's own. If the bytes of a writer are not known, as those
-- of standard output, `Appends` holds of any bytes and says nothing.
use Rattle.std.specs.Prelude.{◌≡◌, ℕ, List, count_by, not, take, Option, Some, false, slice_get}
use Rattle.std.specs.Io.KnownBytes.{Appends}
use Rattle.fr_bytes.specs.Bytes.{IsBeginning}
use Rattle.fr_bytes.specs.Lines.{lines_of}
use Rattle.fr_route.specs.Blank.{is_blank}
use Rattle.fr_route.specs.declared.form.Form.{Form}
use Rattle.fr_route.specs.declared.form.Form.TheVariants.{Text}
use Rattle.fr_command.specs.Points.{Point, AreAnswersIn, first_point}
use Rattle.fr_command.specs.declared.responder.Tally.{Tally}

-- the output of an input in this form
abbrev pub IsOutputIn : Form → List ℕ → List ℕ → Type 0
IsOutputIn form bytes out = (last : Point) × AreAnswersIn form first_point (lines_of bytes) out last

-- the output text of an input
abbrev pub IsOutput : List ℕ → List ℕ → Type 0
IsOutput bytes out = IsOutputIn Text bytes out

-- how many lines are not blank
abbrev pub asking_count : List (List ℕ) → ℕ
asking_count lines = count_by (λ line. not (is_blank line)) lines

-- exactly the output text of these bytes was written, which is their only one; `count` is the number of their lines
-- that are not blank
pub record WritesOutput (bytes : List ℕ) (old new : Option (List ℕ)) (count : ℕ) : Type 0 where
  pub out : List ℕ
  pub output : IsOutput bytes out
  pub only : (other : List ℕ) → IsOutput bytes other → other ≡ out
  pub writes : Appends old new out
  pub counted : count ≡ asking_count (lines_of bytes)

-- exactly the output of these bytes in this form was written, which is their only one; the tally says how many lines
-- were answered and how many of them were refused
pub record WritesOutputIn (form : Form) (bytes : List ℕ) (old new : Option (List ℕ)) (tally : Tally) : Type 0 where
  pub out : List ℕ
  pub last : Point
  pub output : AreAnswersIn form first_point (lines_of bytes) out last
  pub only : (other : List ℕ) → IsOutputIn form bytes other → other ≡ out
  pub writes : Appends old new out
  pub answered : tally.answered ≡ last.answered
  pub refused : tally.refused ≡ last.refused

-- a prefix of the only output of these bytes in this form was written
pub record WritesBeginning (form : Form) (bytes : List ℕ) (old new : Option (List ℕ)) : Type 0 where
  pub whole : List ℕ
  pub out : List ℕ
  pub output : IsOutputIn form bytes whole
  pub only : (other : List ℕ) → IsOutputIn form bytes other → other ≡ whole
  pub begins : IsBeginning out whole
  pub writes : Appends old new out

-- the answers to the lines before the one at this place, which is not blank, were written. They are a prefix of the
-- output
pub record StopsAtLine (form : Form) (bytes : List ℕ) (old new : Option (List ℕ)) : Type 0 where
  pub place : ℕ
  pub line : List ℕ
  pub out : List ℕ
  pub last : Point
  pub is_line : slice_get (lines_of bytes) place ≡ Some line
  pub asks : is_blank line ≡ false
  pub are_answers : AreAnswersIn form first_point (take place (lines_of bytes)) out last
  pub begins : (whole : List ℕ) → IsOutputIn form bytes whole → IsBeginning out whole
  pub writes : Appends old new out
