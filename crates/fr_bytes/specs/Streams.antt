-- What a stream has read, written and flushed, and in which order. This project's own.
use Rattle.std.specs.Prelude.{◌≡◌, ℕ, List, [], ◌∷◌, ◌++◌, Option, None, option_map}
use Rattle.std.specs.Io.KnownBytes.{Appends, Consumes, Keeps}

-- the bytes that were read and written up to a moment, and those that were written when the stream was last flushed
pub record Moment : Type 0 where
  pub read : List ℕ
  pub written : List ℕ
  pub flushed : List ℕ

-- the present moment, and the moments at which the reads so far began
pub record Log : Type 0 where
  pub now : Moment
  pub reads : List Moment

-- the log of a stream with which nothing was done
abbrev pub first_log : Log
first_log = record { now = record { read = []; written = []; flushed = [] }; reads = [] }

-- what is known of a stream: the bytes that are left to read, those that were written, and the log
pub record Traffic : Type 0 where
  pub left : Option (List ℕ)
  pub written : Option (List ℕ)
  pub log : Option Log

-- the traffic of a reader and a writer, of which no log is known
abbrev pub traffic_of : (left written : Option (List ℕ)) → Traffic
traffic_of left written = record { left = left; written = written; log = None }

-- one more read, which gave these bytes
abbrev pub after_read : List ℕ → Log → Log
after_read bytes log =
    record { now = record log.now { read = log.now.read ++ bytes }; reads = log.reads ++ log.now ∷ [] }

-- these bytes were written
abbrev pub after_write : List ℕ → Log → Log
after_write bytes log = record log { now = record log.now { written = log.now.written ++ bytes } }

-- everything was flushed
abbrev pub after_flush : Log → Log
after_flush log = record log { now = record log.now { flushed = log.now.written } }

-- one read gave exactly these bytes: none if it failed, or at the end
abbrev pub Reads : Traffic → Traffic → List ℕ → Type 0
Reads old new bytes = Consumes old.left new.left bytes × (new.written ≡ old.written)
    × (new.log ≡ option_map (after_read bytes) old.log)

-- exactly these bytes were written, and nothing was read
abbrev pub Writes : Traffic → Traffic → List ℕ → Type 0
Writes old new bytes = (new.left ≡ old.left) × Appends old.written new.written bytes
    × (new.log ≡ option_map (after_write bytes) old.log)

-- the stream was flushed
abbrev pub Flushes : Traffic → Traffic → Type 0
Flushes old new = (new.left ≡ old.left) × Keeps old.written new.written × (new.log ≡ option_map after_flush old.log)

-- nothing was read
abbrev pub ReadsNothing : Traffic → Traffic → Type 0
ReadsNothing old new =
    (new.left ≡ old.left) × (option_map (λ log. log.reads) new.log ≡ option_map (λ log. log.reads) old.log)
