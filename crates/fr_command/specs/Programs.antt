-- What the program does and with which status it ends, defined by docs/LINES.md. This project's own.
use Rattle.std.specs.Prelude.{◌≡◌, ◌≢◌, ◌⊎◌, ℕ, List, Option, IsTrue, false, if◌then◌else◌, codes, string_bytes}
use Rattle.std.specs.Io.KnownBytes.{Appends, Keeps}
use Rattle.fr_route.specs.declared.form.Form.{Form}
use Rattle.fr_route.specs.declared.form.Form.TheVariants.{Text, Json, JsonWithWays}
use Rattle.fr_bytes.specs.Bytes.{IsBeginning, ReadsInput}
use Rattle.fr_bytes.specs.Streams.{Traffic}
use Rattle.fr_bytes.specs.declared.fault.RunFault.TheVariants.{Write, Start, Memory}
use Rattle.fr_cli.specs.Tasks.{IsCommandLineIn, IsFaultOf}
use Rattle.fr_cli.specs.declared.task.CommandLine.{CommandLine}
use Rattle.fr_cli.specs.declared.task.Task.{Task}
use Rattle.fr_cli.specs.declared.task.Task.TheVariants.{Run, Serve, Play}
use Rattle.fr_cli.specs.declared.task.TaskFault.{TaskFault}
use Rattle.fr_cli.specs.declared.task.TaskFault.TheVariants.{Usage as UsageFault, Version, Memory as NoMemory}
use Rattle.fr_command.specs.Faults.{IsRunFaultIn, IsServeFaultIn, IsDrawnPlayFault, fault_line}
use Rattle.fr_command.specs.Outputs.{WritesOutputIn}
use Rattle.fr_command.specs.Plays.{WritesPlay}
use Rattle.fr_command.specs.Services.{Serves}
use Rattle.fr_command.specs.declared.programs.Failure.{Failure}
use Rattle.fr_command.specs.declared.programs.Failure.TheVariants.{Usage, Stopped, StoppedServing}
use Rattle.fr_command.specs.declared.responder.Tally.{Tally}

-- the form of the answers
abbrev pub form_of : CommandLine → Form
form_of line = if line.ways then JsonWithWays else (if line.json then Json else Text)

-- the status if the task is done: 3 if a line was refused and the words have `--strict`, and otherwise 0
abbrev pub IsStatus : CommandLine → (refused status : ℕ) → Type 0
IsStatus line refused status =
    ((status ≡ 3) × IsTrue line.strict × (refused ≢ 0))
    ⊎ ((status ≡ 0) × ¬ (IsTrue line.strict × (refused ≢ 0)))

-- the task was done, and the program ends with this status
abbrev pub DoesTask : Task → CommandLine → (old new : Traffic) → ℕ → Type 0
DoesTask (Run plan) line old new status =
    (tally : Tally) × (bytes : List ℕ) × ReadsInput old.left new.left bytes
    × WritesOutputIn (form_of line) bytes old.written new.written tally × IsStatus line tally.refused status
DoesTask (Serve plan) line old new status =
    (tally : Tally) × Serves (form_of line) old new tally × IsStatus line tally.refused status
DoesTask (Play draw) line old new status =
    (bytes : List ℕ) × (count : ℕ) × ReadsInput old.left new.left bytes
    × WritesPlay draw bytes old.written new.written count × (status ≡ 0)

-- the task was not done, and why
abbrev pub FailsTask : Task → Form → (old new : Traffic) → Failure → Type 0
FailsTask (Run plan) form old new (Stopped fault) =
    IsRunFaultIn form old.left new.left old.written new.written fault
FailsTask (Serve plan) form old new (StoppedServing fault) = IsServeFaultIn form old new fault
FailsTask (Play draw) form old new (Stopped fault) =
    IsDrawnPlayFault draw old.left new.left old.written new.written fault
FailsTask task form old new failure = ⊥

-- the words ask for this text, which is help or the version
abbrev pub AsksFor : TaskFault → List ℕ → Type 0
AsksFor (UsageFault text asked) out = IsTrue asked × (out ≡ string_bytes text)
AsksFor (Version text) out = out ≡ string_bytes text
AsksFor NoMemory out = ⊥

-- exactly that text was written
abbrev pub PrintsAsked : TaskFault → (old new : Option (List ℕ)) → Type 0
PrintsAsked fault old new = (text : List ℕ) × AsksFor fault text × Appends old new text

-- No text was written that the words ask for: they are wrong, and the failure has the text that says so; or a prefix
-- of the text was written; or memory is missing.
abbrev pub IsUntold : TaskFault → (old new : Option (List ℕ)) → Failure → Type 0
IsUntold fault old new (Usage text) = (fault ≡ UsageFault text false) × Keeps old new
IsUntold fault old new (Stopped Write) =
    (text : List ℕ) × (out : List ℕ) × AsksFor fault text × IsBeginning out text × Appends old new out
IsUntold fault old new (Stopped Memory) = (fault ≡ NoMemory) × Keeps old new
IsUntold fault old new failure = ⊥

-- the program does what the words ask for, and ends with this status
abbrev pub IsDone : List (List ℕ) → (old new : Traffic) → ℕ → Type 0
IsDone words old new status =
    ((line : CommandLine) × IsCommandLineIn words line × DoesTask line.task line old new status)
    ⊎ ((fault : TaskFault) × IsFaultOf words fault × (new.left ≡ old.left)
    × PrintsAsked fault old.written new.written × (status ≡ 0))

-- why it does not
abbrev pub IsFailure : List (List ℕ) → (old new : Traffic) → Failure → Type 0
IsFailure words old new failure =
    ((line : CommandLine) × IsCommandLineIn words line × FailsTask line.task (form_of line) old new failure)
    ⊎ ((fault : TaskFault) × IsFaultOf words fault × (new.left ≡ old.left)
    × IsUntold fault old.written new.written failure)

-- the exit status of a failure
abbrev pub status_of : Failure → ℕ
status_of (Usage text) = 2
status_of (Stopped fault) = 1
status_of (StoppedServing fault) = 1

-- the text of a failure for standard error
abbrev pub failure_text : Failure → List ℕ
failure_text (Usage text) = string_bytes text
failure_text (Stopped fault) = fault_line fault
failure_text (StoppedServing Start) = codes "revroute: no thread (serve --alone needs none)"
failure_text (StoppedServing fault) = fault_line fault
