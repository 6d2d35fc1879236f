-- What a service does with a stream, and when it answers. This project's own.
use Rattle.std.specs.Prelude.{◌≡◌, ℕ, List, Option, Some, IfSome}
use Rattle.std.specs.List.{AllByRecursion as Each}
use Rattle.std.specs.Io.KnownBytes.{Consumes, IsAtEnd}
use Rattle.fr_route.specs.declared.form.Form.{Form}
use Rattle.fr_bytes.specs.Lines.{lines_of}
use Rattle.fr_bytes.specs.Streams.{Log, Moment, Traffic, first_log}
use Rattle.fr_command.specs.Conversations.{Talk, Takes, silence_in}
use Rattle.fr_command.specs.Outputs.{asking_count, WritesOutput, WritesOutputIn}
use Rattle.fr_command.specs.declared.responder.Tally.{Tally}

-- the stream was read to its end, and exactly the output of its bytes in this form was written
abbrev pub Serves : Form → Traffic → Traffic → Tally → Type 0
Serves form old new tally = (bytes : List ℕ) × Consumes old.left new.left bytes × IsAtEnd new.left
    × WritesOutputIn form bytes old.written new.written tally

-- the same as text
abbrev pub ServesText : Traffic → Traffic → Type 0
ServesText old new = (bytes : List ℕ) × Consumes old.left new.left bytes × IsAtEnd new.left
    × WritesOutput bytes old.written new.written (asking_count (lines_of bytes))

-- at this moment exactly the lines that had ended in the bytes read had been answered, and all answers were flushed
abbrev pub IsAnsweredAt : Form → Moment → Type 0
IsAnsweredAt form moment = (talk : Talk) × Takes (silence_in form) moment.read moment.written talk
    × (moment.flushed ≡ moment.written)

-- if nothing was done with the stream before, each read began at such a moment
abbrev pub AnswersInTime : Form → (old new : Option Log) → Type 0
AnswersInTime form old new = old ≡ Some first_log → IfSome new (λ log. Each (IsAnsweredAt form) log.reads)
