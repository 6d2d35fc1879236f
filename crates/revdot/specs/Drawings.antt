-- The picture of an input. This project's own.
use Rattle.std.specs.Prelude.{◌≡◌, ℕ, List, [], Option, Some, None}
use Rattle.fr_route.specs.States.{State}
use Rattle.fr_route.specs.Answers.{AreAnswers}
use Rattle.fr_bytes.specs.Lines.{lines_of}
use Rattle.revdot.specs.Settled.{IsGraphOf, IsWaysGraphOf}
use Rattle.revdot.specs.Strips.{IsStripOf}
use Rattle.revdot.specs.Comments.{without_comments}
use Rattle.revdot.specs.declared.graphs.Direction.{Direction}
use Rattle.revdot.specs.declared.graphs.Label.TheVariants.{Plain}
use Rattle.revdot.specs.declared.drawing.Picture.{Picture}
use Rattle.revdot.specs.declared.drawing.Picture.TheVariants.{Network, Ways, Turns}

-- the state after the lines of an input that are not comments; `None` if there is no network
abbrev pub IsLeftBy : List ℕ → Option State → Type 0
IsLeftBy bytes last = (answers : List ℕ) × AreAnswers None (without_comments (lines_of bytes)) answers last

-- the picture of a state in this direction, and nothing without a network
abbrev pub IsPictureOf : Picture → Direction → Option State → List ℕ → Type 0
IsPictureOf picture towards None out = out ≡ []
IsPictureOf Network towards (Some s) out = IsGraphOf towards Plain s out
IsPictureOf Ways towards (Some s) out = IsWaysGraphOf towards s out
IsPictureOf Turns towards (Some s) out = IsStripOf towards s out

-- the picture in this direction of the state after the lines of an input
pub record IsDrawing (picture : Picture) (towards : Direction) (bytes out : List ℕ) : Type 0 where
  pub last : Option State
  pub is_left : IsLeftBy bytes last
  pub is_picture : IsPictureOf picture towards last out
