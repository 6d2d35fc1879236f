-- What is read from a reader, and a prefix of an output. This project's own. If the bytes of a reader are not known,
-- as those of standard input, these definitions hold of any bytes and say nothing.
use Rattle.std.specs.Prelude.{◌≡◌, ℕ, ◌+◌, ◌<◌, ◌≤◌, List, ◌++◌, length, Option}
use Rattle.std.specs.Io.KnownBytes.{Consumes, IsAtEnd}

-- the greatest number of bytes of an input
abbrev pub most_bytes : ℕ
most_bytes = 16777216

-- the reader had exactly these bytes, and they are no more than an input may have
abbrev pub ReadsInput : Option (List ℕ) → Option (List ℕ) → List ℕ → Type 0
ReadsInput before after bytes = Consumes before after bytes × IsAtEnd after × (length bytes ≤ most_bytes)

-- at least one byte was read
abbrev pub ReadsSome : Option (List ℕ) → Option (List ℕ) → Type 0
ReadsSome before after = (bytes : List ℕ) × Consumes before after bytes × (0 < length bytes)

-- one byte more was read than an input may have
abbrev pub ReadsOneTooMany : Option (List ℕ) → Option (List ℕ) → Type 0
ReadsOneTooMany before after = (bytes : List ℕ) × Consumes before after bytes × (length bytes ≡ most_bytes + 1)

-- at most one byte more was read than an input may have
abbrev pub ReadsAtMostOneTooMany : Option (List ℕ) → Option (List ℕ) → Type 0
ReadsAtMostOneTooMany before after = (bytes : List ℕ) × Consumes before after bytes × (length bytes ≤ most_bytes + 1)

abbrev pub IsBeginning : List ℕ → List ℕ → Type 0
IsBeginning front whole = (rest : List ℕ) × (whole ≡ front ++ rest)
