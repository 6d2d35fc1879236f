-- How far a piece of an input is answered if something fails. For proofs only.
use Rattle.std.specs.Prelude.{◌≡◌, ◌≢◌, ℕ, ◌+◌, ◌<◌, ◌≤◌, List, [], length, take, drop, Option}
use Rattle.std.specs.Io.KnownBytes.{Appends, Keeps}
use Rattle.fr_bytes.specs.Bytes.{most_bytes, IsBeginning}
use Rattle.fr_bytes.specs.Streams.{Traffic, Flushes, Writes}
use Rattle.fr_bytes.specs.declared.fault.RunFault.{RunFault}
use Rattle.fr_bytes.specs.declared.fault.RunFault.TheVariants.{Read, Write, TooLong, Start, Memory}
use Rattle.fr_command.specs.Conversations.{Talk, Takes, Says, carried, point_of}
use Rattle.fr_command.specs.Faults.{IsTakeFault}

-- these bytes were taken, exactly the answer to them was written to a stream, and nothing was read from it
pub record Tells (old : Talk) (bytes : List ℕ) (new : Talk) (before after : Traffic) : Type 0 where
  pub text : List ℕ
  pub takes : Takes old bytes text new
  pub writes : Writes before after text

-- and then the stream was flushed
abbrev pub Answers : (old : Talk) (bytes : List ℕ) (new : Talk) (before after : Traffic) → Type 0
Answers old bytes new before after = (mid : Traffic) × Tells old bytes new before mid × Flushes mid after

-- some bytes of the piece were taken, and their answer was written; with this fault, nothing was taken of the rest
pub record StopsInPiece (fault : RunFault) (old : Talk) (piece : List ℕ) (new : Talk)
    (before after : Option (List ℕ)) : Type 0 where
  pub count : ℕ
  pub says : Says old (take count piece) new before after
  pub untaken : IsTakeFault (point_of new) (carried new (drop count piece)) (drop count piece) fault

-- a prefix of the answer to some bytes of the piece was written
pub record BeginsInPiece (old : Talk) (piece : List ℕ) (before after : Option (List ℕ)) : Type 0 where
  pub count : ℕ
  pub new : Talk
  pub whole : List ℕ
  pub out : List ℕ
  pub takes : Takes old (take count piece) whole new
  pub begins : IsBeginning out whole
  pub writes : Appends before after out

-- why a piece is not answered to its end: a write failed, or the conversation could not take a line
abbrev pub IsPieceFault : (old : Talk) (piece : List ℕ) (new : Talk) (before after : Option (List ℕ)) → RunFault
    → Type 0
IsPieceFault old piece new before after Write = BeginsInPiece old piece before after
IsPieceFault old piece new before after fault = StopsInPiece fault old piece new before after

-- why the first line of a piece is not answered: a write failed; or the conversation could not take it, and nothing was
-- written
abbrev pub IsFrontFault : (old : Talk) (piece : List ℕ) (new : Talk) (before after : Option (List ℕ)) → RunFault
    → Type 0
IsFrontFault old piece new before after Write = BeginsInPiece old piece before after
IsFrontFault old piece new before after fault =
    (new ≡ old) × Keeps before after × IsTakeFault (point_of old) (carried old piece) piece fault

-- why these bytes are not added to the line that has begun: the line would be too long, or memory is missing
abbrev pub IsHoldFault : (begun bytes : List ℕ) → RunFault → Type 0
IsHoldFault begun bytes Read = ⊥
IsHoldFault begun bytes Write = ⊥
IsHoldFault begun bytes TooLong = most_bytes < length begun + length bytes
IsHoldFault begun bytes Start = ⊥
IsHoldFault begun bytes Memory = (bytes ≢ []) × (length begun + length bytes ≤ most_bytes)
