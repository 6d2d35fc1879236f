-- What is written for an input with exactly one text, and when writing fails. This project's own.
use Rattle.std.specs.Prelude.{◌≡◌, List, ℕ, Option}
use Rattle.std.specs.Io.KnownBytes.{Appends, Keeps}
use Rattle.fr_bytes.specs.Bytes.{IsBeginning, ReadsInput, ReadsOneTooMany}
use Rattle.fr_bytes.specs.declared.fault.RunFault.{RunFault}
use Rattle.fr_bytes.specs.declared.fault.RunFault.TheVariants.{Read, Write, TooLong, Start, Memory}

-- `out` is the only text of these bytes
pub record IsOne (IsText : List ℕ → List ℕ → Type 0) (bytes out : List ℕ) : Type 0 where
  pub is : IsText bytes out
  pub only : (other : List ℕ) → IsText bytes other → other ≡ out

-- the whole input was read, and exactly its text was written
pub record WritesText (IsText : List ℕ → List ℕ → Type 0) (before after old new : Option (List ℕ)) : Type 0 where
  pub bytes : List ℕ
  pub out : List ℕ
  pub reads : ReadsInput before after bytes
  pub text : IsOne IsText bytes out
  pub writes : Appends old new out

-- the whole input was read, and a prefix of its text was written
pub record WritesBeginning (IsText : List ℕ → List ℕ → Type 0) (before after old new : Option (List ℕ)) : Type 0 where
  pub bytes : List ℕ
  pub whole : List ℕ
  pub out : List ℕ
  pub reads : ReadsInput before after bytes
  pub text : IsOne IsText bytes whole
  pub begins : IsBeginning out whole
  pub writes : Appends old new out

-- Why the text is not written. If a write failed, a prefix of the text was written, otherwise nothing. No thread is
-- started.
abbrev pub IsTextFault : (IsText : List ℕ → List ℕ → Type 0) (before after old new : Option (List ℕ)) → RunFault
    → Type 0
IsTextFault IsText before after old new Read = Keeps old new
IsTextFault IsText before after old new Write = WritesBeginning IsText before after old new
IsTextFault IsText before after old new TooLong = Keeps old new × ReadsOneTooMany before after
IsTextFault IsText before after old new Start = ⊥
IsTextFault IsText before after old new Memory = Keeps old new
