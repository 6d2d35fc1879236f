-- When a run, a service, a play and a conversation fail, and what was read and written by then. This project's own.
use Rattle.std.specs.Prelude.{◌≡◌, ◌≢◌, ℕ, ◌+◌, ◌<◌, ◌⊎◌, true, false, List, [], length, Option, codes}
use Rattle.std.specs.Io.KnownBytes.{Consumes, Keeps}
use Rattle.fr_route.specs.Blank.{is_blank}
use Rattle.fr_route.specs.declared.form.Form.{Form}
use Rattle.fr_route.specs.declared.form.Form.TheVariants.{Text}
use Rattle.fr_bytes.specs.Bytes.{most_bytes, ReadsInput, ReadsSome, ReadsOneTooMany}
use Rattle.fr_bytes.specs.Streams.{Traffic}
use Rattle.fr_bytes.specs.declared.fault.RunFault.{RunFault}
use Rattle.fr_bytes.specs.declared.fault.RunFault.TheVariants.{Read, Write, TooLong, Start, Memory}
use Rattle.fr_crew.specs.declared.plan.Plan.{Plan}
use Rattle.fr_cli.specs.declared.draws.Draw.{Draw}
use Rattle.fr_command.specs.Outputs.{WritesBeginning, StopsAtLine}
use Rattle.fr_command.specs.Conversations.{Talk, Says, AnswersBefore, MayWantMemory, silence_in}
use Rattle.fr_command.specs.Points.{Point, MayStartAt}
use Rattle.fr_command.specs.Plays.{WritesPlayBeginning}

-- the whole input was read, and the answers to the lines before one that is not blank were written
abbrev pub StopsAfterReading : (form : Form) (before after old new : Option (List ℕ)) → Type 0
StopsAfterReading form before after old new =
    (bytes : List ℕ) × ReadsInput before after bytes × StopsAtLine form bytes old new

-- Why a run that answers in this form fails. If a read fails or the input is too long, nothing was written. If a write
-- fails, a prefix of the output was written. A thread is missing for a line that may need one, or memory for a line,
-- and then the answers to the lines before it were written; or memory is missing for the input, and then nothing was
-- written.
abbrev pub IsRunFaultIn : (form : Form) (before after old new : Option (List ℕ)) → RunFault → Type 0
IsRunFaultIn form before after old new Read = Keeps old new
IsRunFaultIn form before after old new Write =
    (bytes : List ℕ) × ReadsInput before after bytes × WritesBeginning form bytes old new
IsRunFaultIn form before after old new TooLong = Keeps old new × ReadsOneTooMany before after
IsRunFaultIn form before after old new Start =
    (bytes : List ℕ) × ReadsInput before after bytes × (stop : StopsAtLine form bytes old new)
    × MayStartAt stop.last stop.line
IsRunFaultIn form before after old new Memory =
    (Keeps old new × ReadsSome before after) ⊎ StopsAfterReading form before after old new

-- why a run that answers as text fails
abbrev pub IsRunFault : (before after old new : Option (List ℕ)) → RunFault → Type 0
IsRunFault before after old new fault = IsRunFaultIn Text before after old new fault

-- Why a service that answers in this form fails. If a read fails, or the last byte read makes a line too long, exactly
-- the lines that had ended were answered. If a write fails, a prefix of the output was written. If a thread is
-- missing for a line that may need one, or memory for a line, the lines before it were answered.
abbrev pub IsServeFaultIn : (form : Form) (old new : Traffic) → RunFault → Type 0
IsServeFaultIn form old new Read =
    (bytes : List ℕ) × (talk : Talk) × Consumes old.left new.left bytes
    × Says (silence_in form) bytes talk old.written new.written
IsServeFaultIn form old new Write =
    (bytes : List ℕ) × Consumes old.left new.left bytes × WritesBeginning form bytes old.written new.written
IsServeFaultIn form old new TooLong =
    (bytes : List ℕ) × (talk : Talk) × Consumes old.left new.left bytes
    × Says (silence_in form) bytes talk old.written new.written
    × (length talk.begun ≡ most_bytes + 1)
IsServeFaultIn form old new Start =
    (bytes : List ℕ) × (line : List ℕ) × Consumes old.left new.left bytes
    × (stop : AnswersBefore form bytes line old.written new.written)
    × MayStartAt stop.last line
IsServeFaultIn form old new Memory =
    (bytes : List ℕ) × (line : List ℕ) × Consumes old.left new.left bytes
    × (stop : AnswersBefore form bytes line old.written new.written)
    × (line ≢ []) × (is_blank line ≡ true → stop.behind ≡ [])

-- why a service that answers as text fails
abbrev pub IsServeFault : (old new : Traffic) → RunFault → Type 0
IsServeFault old new fault = IsServeFaultIn Text old new fault

-- Why a play fails. If a write fails, a prefix of the output was written; otherwise nothing was written. It starts
-- no thread.
abbrev pub IsDrawnPlayFault : (draw : Draw) (before after old new : Option (List ℕ)) → RunFault → Type 0
IsDrawnPlayFault draw before after old new Read = Keeps old new
IsDrawnPlayFault draw before after old new Write =
    (bytes : List ℕ) × ReadsInput before after bytes × WritesPlayBeginning draw bytes old new
IsDrawnPlayFault draw before after old new TooLong = Keeps old new × ReadsOneTooMany before after
IsDrawnPlayFault draw before after old new Start = ⊥
IsDrawnPlayFault draw before after old new Memory = Keeps old new

-- Why a conversation at this point takes nothing of a piece, with which its line becomes `line`: the line is too long;
-- or it may need a thread, which is missing; or memory is missing. A conversation reads and writes nothing.
abbrev pub IsTakeFault : (point : Point) (line piece : List ℕ) → RunFault → Type 0
IsTakeFault point line piece Read = ⊥
IsTakeFault point line piece Write = ⊥
IsTakeFault point line piece TooLong = most_bytes < length line
IsTakeFault point line piece Start = MayStartAt point line
IsTakeFault point line piece Memory = MayWantMemory line piece

-- why a conversation does not end this line at this point: the line may need a thread, which is missing; or it is not
-- blank, and memory is missing for its answer
abbrev pub IsFinishFault : (point : Point) (line : List ℕ) → RunFault → Type 0
IsFinishFault point line Read = ⊥
IsFinishFault point line Write = ⊥
IsFinishFault point line TooLong = ⊥
IsFinishFault point line Start = MayStartAt point line
IsFinishFault point line Memory = is_blank line ≡ false

-- the line for standard error, without its newline
abbrev pub fault_line : RunFault → List ℕ
fault_line Read = codes "revroute: read fault"
fault_line Write = codes "revroute: write fault"
fault_line TooLong = codes "revroute: input too long"
fault_line Start = codes "revroute: no thread"
fault_line Memory = codes "revroute: no memory"

-- this plan starts no thread: there is one worker, or it makes no call
abbrev pub StartsNone : Plan → Type 0
StartsNone plan = (plan.budget ≡ 0) ⊎ (plan.workers ≡ 1)
