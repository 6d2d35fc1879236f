-- What a command line asks for. This project's own.
use Rattle.std.specs.Prelude.{ℕ, ◌⊎◌, ◌≡◌, ◌≢◌, ◌≤◌, ◌↔◌, ⊤, IsTrue, List, [], Some, codes, false}
use Rattle.std.specs.Prelude.{if◌then◌else◌, string_bytes}
use Rattle.clap.specs.Walk.{Row, Text}
use Rattle.clap.specs.Simple.{subcommand_of}
use Rattle.clap.specs.Faults.{fault_of}
use Rattle.clap.specs.Kinds.{IsAmong}
use Rattle.clap.specs.declared.error.kind.ErrorKind.{ErrorKind}
use Rattle.clap.specs.declared.error.kind.ErrorKind.TheVariants.{DisplayHelp, DisplayVersion, OutOfMemory}
use Rattle.fr_core.specs.Limits.{most_workers}
use Rattle.fr_crew.specs.declared.plan.Plan.{Plan}
use Rattle.fr_cli.specs.Draws.{most_steps}
use Rattle.fr_cli.specs.Commands.{command, most_budget, most_seed, number_of, HasNumber, IsGiven, LacksJson}
use Rattle.fr_cli.specs.declared.draws.Draw.{Draw}
use Rattle.fr_cli.specs.declared.task.CommandLine.{CommandLine}
use Rattle.fr_cli.specs.declared.task.Task.{Task}
use Rattle.fr_cli.specs.declared.task.Task.TheVariants.{Run, Serve, Play}
use Rattle.fr_cli.specs.declared.task.TaskFault.{TaskFault}
use Rattle.fr_cli.specs.declared.task.TaskFault.TheVariants.{Usage, Version, Memory}

-- the budget of these options: 0 with the flag `alone`, and otherwise the number of the option, in its range
abbrev pub IsBudgetIn : List Row → ℕ → Type 0
IsBudgetIn rows budget =
    (IsGiven (codes "alone") rows × (budget ≡ 0))
    ⊎ (¬ IsGiven (codes "alone") rows × (number_of (codes "budget") rows ≡ Some budget) × (budget ≤ most_budget))

-- the plan has the numbers of these options, each in its range
abbrev pub IsPlanIn : List Row → Plan → Type 0
IsPlanIn rows plan =
    (number_of (codes "workers") rows ≡ Some plan.workers) × (1 ≤ plan.workers) × (plan.workers ≤ most_workers)
    × (number_of (codes "seed") rows ≡ Some plan.seed) × IsBudgetIn rows plan.budget

-- the draw has the numbers of these options, each in its range
abbrev pub IsDrawIn : List Row → Draw → Type 0
IsDrawIn rows draw =
    (number_of (codes "workers") rows ≡ Some draw.workers) × (1 ≤ draw.workers) × (draw.workers ≤ most_workers)
    × (number_of (codes "seed") rows ≡ Some draw.seed)
    × (number_of (codes "steps") rows ≡ Some draw.steps) × (draw.steps ≤ most_steps)

-- the number of workers is not 0
abbrev pub HasWorkers : List Row → Type 0
HasWorkers rows =
    HasNumber most_workers (codes "workers") rows × (number_of (codes "workers") rows ≢ Some 0)

-- these options give a budget
abbrev pub HasBudget : List Row → Type 0
HasBudget rows = IsGiven (codes "alone") rows ⊎ HasNumber most_budget (codes "budget") rows

-- these options give a plan: each number is in its range
abbrev pub HasPlan : List Row → Type 0
HasPlan rows = HasWorkers rows × HasNumber most_seed (codes "seed") rows × HasBudget rows

-- these options give a draw: each number is in its range
abbrev pub HasDraw : List Row → Type 0
HasDraw rows =
    HasWorkers rows × HasNumber most_seed (codes "seed") rows × HasNumber most_steps (codes "steps") rows

-- the subcommand with this name and these options has a task
abbrev pub HasTask : Text → List Row → Type 0
HasTask name rows =
    (((name ≡ codes "run") ⊎ (name ≡ codes "serve")) × HasPlan rows) ⊎ ((name ≡ codes "play") × HasDraw rows)

-- the task of the subcommand with this name, with the numbers of its options
abbrev pub IsTaskOf : Text → List Row → Task → Type 0
IsTaskOf name rows (Run plan) = (name ≡ codes "run") × IsPlanIn rows plan
IsTaskOf name rows (Serve plan) = (name ≡ codes "serve") × IsPlanIn rows plan
IsTaskOf name rows (Play draw) = (name ≡ codes "play") × IsDrawIn rows draw

-- the command line of the subcommand with this name: its task, and which of its flags were given
abbrev pub IsCommandLineOf : Text → List Row → CommandLine → Type 0
IsCommandLineOf name rows line =
    IsTaskOf name rows line.task
    × (IsTrue line.json ↔ IsGiven (codes "json") rows) × (IsTrue line.ways ↔ IsGiven (codes "ways") rows)
    × (IsTrue line.strict ↔ IsGiven (codes "strict") rows)

-- the subcommand of the words, in which `clap` finds no fault, and its options, as `clap` reads them. If an option is
-- not given, its number is the default.
abbrev pub IsReadAs : List Text → (name : Text) → (rows : List Row) → Type 0
IsReadAs words name rows = (fault_of command words ≡ []) × (subcommand_of command words ≡ Some (name, rows))

-- the command line of the words
abbrev pub IsCommandLineIn : List Text → CommandLine → Type 0
IsCommandLineIn words line =
    (name : Text) × (rows : List Row) × IsReadAs words name rows × ¬ LacksJson rows × IsCommandLineOf name rows line

-- the task of that command line
abbrev pub IsTaskIn : List Text → Task → Type 0
IsTaskIn words task = (line : CommandLine) × IsCommandLineIn words line × (task ≡ line.task)

-- the fault for an error of this kind: it says that help or the version was asked for exactly if it was
abbrev pub IsUsageOf : ErrorKind → TaskFault → Type 0
IsUsageOf kind (Usage text asked) = (kind ≢ OutOfMemory) × (kind ≢ DisplayVersion)
    × (IsTrue asked ↔ (kind ≡ DisplayHelp))
IsUsageOf kind (Version text) = kind ≡ DisplayVersion
IsUsageOf kind Memory = ⊤

-- the fault for words that `clap` accepts, but that are wrong
abbrev pub IsUsageError : TaskFault → Type 0
IsUsageError (Usage text asked) = asked ≡ false
IsUsageError (Version text) = ⊥
IsUsageError Memory = ⊤

-- The fault for words that `clap` does not accept, with one of the kinds of error that it has for them; or for words
-- with the flag `ways` and without the flag `json`. Memory can be missing for any words.
abbrev pub IsFaultOf : List Text → TaskFault → Type 0
IsFaultOf words (Usage text asked) =
    ((kind : ErrorKind) × IsAmong kind (fault_of command words)
    × (kind ≢ DisplayVersion) × (IsTrue asked ↔ (kind ≡ DisplayHelp)))
    ⊎ ((name : Text) × (rows : List Row) × IsReadAs words name rows × LacksJson rows × (asked ≡ false))
IsFaultOf words (Version text) = IsAmong DisplayVersion (fault_of command words)
IsFaultOf words Memory = ⊤

-- how the program ends with a fault: the status 0 and the text if the words ask for it, 2 and the text if they are
-- wrong, and 1 and a line that says so if memory is missing
abbrev pub IsEndOf : TaskFault → (status : ℕ) → (text : List ℕ) → Type 0
IsEndOf (Usage text asked) status shown = (status ≡ (if asked then 0 else 2)) × (shown ≡ string_bytes text)
IsEndOf (Version text) status shown = (status ≡ 0) × (shown ≡ string_bytes text)
IsEndOf Memory status shown = (status ≡ 1) × (shown ≡ codes "revroute: no memory")
