-- The machine: workers turn nodes and look at them by single loads and exchanges on the counts of a network. A step is
-- the load or the exchange of one count. The workers make their steps in the order of a schedule. This project's own,
-- in the style of Herlihy and Wing (1990). In the table, t is a turn of x or a look at x.
--
--   phase              the step                                 the result
--   Idle, none left    nothing
--   Idle, turn of x    loads the count c of x                   c is n: decides Cut
--                                                               otherwise Looking (turn of x) c 0
--   Idle, look at x    loads the count c of x                   Looking (look at x) c 0
--   Looking t c j      loads the count of neighbour j of x      below its bound: decides Held by it
--                                                               otherwise, the last neighbour:
--                                                                 Swapping x c for a turn,
--                                                                 Confirming x c for a look
--                                                               otherwise Looking t c (j + 1)
--   Swapping x c       exchanges the count of x, if it is c,    it was c: decides Turned, with c + 1
--                      for c + 1                                otherwise decides Moved, with c and the count found
--   Confirming x c     loads the count of x                     it is c: decides Sink
--                                                               otherwise decides Moved, with c and the count found
use Rattle.std.specs.Prelude.{ℕ, ◌+◌, ◌==◌, nat_lt, if◌then◌else◌, List, [], ◌∷◌, ◌++◌, length, map, replicate}
use Rattle.std.specs.Prelude.{Option, Some, None, slice_index, slice_index_or, slice_set, option_to_list}
use Rattle.fr_graph.specs.Rows.{row}
use Rattle.fr_graph.specs.declared.first.First.{First}
use Rattle.fr_graph.specs.declared.first.First.TheVariants.{Outward, Inward}
use Rattle.fr_core.specs.Targets.{node_of}
use Rattle.fr_core.specs.declared.entry.Entry.{Entry}
use Rattle.fr_core.specs.declared.entry.Reply.{Reply}
use Rattle.fr_core.specs.declared.entry.Reply.TheVariants.{Turned, Held, Moved, Cut, Sink}
use Rattle.fr_core.specs.declared.targets.Target.{Target}
use Rattle.fr_core.specs.declared.targets.Target.TheVariants.{Turn, Look}
use Rattle.fr_core.specs.declared.worker.Phase.{Phase}
use Rattle.fr_core.specs.declared.worker.Phase.TheVariants.{Idle, Looking, Swapping, Confirming}

-- a worker: the targets that it has not used up, and its phase in the call on the first of them
pub record WorkerState : Type 0 where
  pub left : List Target
  pub phase : Phase

-- the machine: how often each node has turned, and the workers
pub record MachineState : Type 0 where
  pub counts : List ℕ
  pub workers : List WorkerState

-- a worker before its first step
abbrev pub fresh : List Target → WorkerState
fresh targets = record { left = targets; phase = Idle }

-- the machine before its first step
abbrev pub start : ℕ → List (List Target) → MachineState
start n targets = record { counts = replicate n 0; workers = map fresh targets }

-- the result of a step: the counts, the worker, and the node and reply of a call that it decides
pub record Outcome : Type 0 where
  pub counts : List ℕ
  pub worker : WorkerState
  pub decided : Option (ℕ × Reply)

-- the step decides nothing
abbrev pub goes_on : List ℕ → List Target → Phase → Outcome
goes_on counts left phase = record { counts = counts; worker = record { left = left; phase = phase }; decided = None }

abbrev pub all_but_first : List Target → List Target
all_but_first [] = []
all_but_first (t ∷ ts) = ts

-- the step decides the call on x, which uses up its target and leaves the worker idle
abbrev pub decides : List ℕ → List Target → ℕ → Reply → Outcome
decides counts left x reply = record {
  counts = counts;
  worker = record { left = all_but_first left; phase = Idle };
  decided = Some (x, reply);
}

-- the bound of a neighbour: the link points to a node with count c once the neighbour's count is at least the bound
abbrev pub bound_of : First → ℕ → ℕ
bound_of Outward c = c + 1
bound_of Inward c = c

-- the load of the own count, for a turn and for a look
abbrev pub load_own : ℕ → List ℕ → List Target → ℕ → Outcome
load_own n counts left x =
    if slice_index counts x == n then decides counts left x Cut
    else goes_on counts left (Looking (Turn x) (slice_index counts x) 0)

abbrev pub load_to_look : List ℕ → List Target → ℕ → Outcome
load_to_look counts left x = goes_on counts left (Looking (Look x) (slice_index counts x) 0)

-- the neighbour at place j of a row, with the first direction of its link
abbrev pub neighbour_at : List (ℕ × First) → ℕ → ℕ × First
neighbour_at neighbours j = slice_index_or neighbours j (0, Outward)

-- the phase of a call that no neighbour held
abbrev pub phase_unheld : Target → ℕ → Phase
phase_unheld (Turn x) c = Swapping x c
phase_unheld (Look x) c = Confirming x c

-- the load of a neighbour's count
abbrev pub load_neighbour : List (ℕ × First) → List ℕ → List Target → Target → ℕ → ℕ → Outcome
load_neighbour neighbours counts left t c j =
    let w = neighbour_at neighbours j in
    if nat_lt (slice_index counts w.0) (bound_of w.1 c) then decides counts left (node_of t) (Held w.0)
    else if j + 1 == length neighbours then goes_on counts left (phase_unheld t c)
    else goes_on counts left (Looking t c (j + 1))

-- the exchange of the own count
abbrev pub exchange : List ℕ → List Target → ℕ → ℕ → Outcome
exchange counts left x c =
    if slice_index counts x == c then decides (slice_set counts x (c + 1)) left x (Turned (c + 1))
    else decides counts left x (Moved c (slice_index counts x))

-- the second load of the own count
abbrev pub confirm : List ℕ → List Target → ℕ → ℕ → Outcome
confirm counts left x c =
    if slice_index counts x == c then decides counts left x Sink
    else decides counts left x (Moved c (slice_index counts x))

-- the first step of a call
abbrev pub begin_call : ℕ → List ℕ → List Target → Target → Outcome
begin_call n counts left (Turn x) = load_own n counts left x
begin_call n counts left (Look x) = load_to_look counts left x

abbrev pub step_idle : ℕ → List ℕ → List Target → Outcome
step_idle n counts [] = goes_on counts [] Idle
step_idle n counts (t ∷ ts) = begin_call n counts (t ∷ ts) t

-- the result of a step of a worker with these targets left, by its phase
abbrev pub outcome : ℕ → List (ℕ × ℕ) → List ℕ → List Target → Phase → Outcome
outcome n first counts left Idle = step_idle n counts left
outcome n first counts left (Looking t c j) = load_neighbour (row n first (node_of t)) counts left t c j
outcome n first counts left (Swapping x c) = exchange counts left x c
outcome n first counts left (Confirming x c) = confirm counts left x c

abbrev pub worker_of : MachineState → ℕ → WorkerState
worker_of m k = slice_index_or m.workers k (fresh [])

-- the result of a step of worker k
abbrev pub outcome_of : ℕ → List (ℕ × ℕ) → MachineState → ℕ → Outcome
outcome_of n first m k = outcome n first m.counts (worker_of m k).left (worker_of m k).phase

-- the machine after a step of worker k
abbrev pub step : ℕ → List (ℕ × ℕ) → MachineState → ℕ → MachineState
step n first m k = record {
  counts = (outcome_of n first m k).counts;
  workers = slice_set m.workers k (outcome_of n first m k).worker;
}

-- the entry of a call that worker k decided, if there is one
abbrev pub entry_of : ℕ → Option (ℕ × Reply) → List Entry
entry_of k None = []
entry_of k (Some d) = record { worker = k; node = d.0; reply = d.1 } ∷ []

-- the entries that the steps of a schedule decide, in order
abbrev pub entries_of : ℕ → List (ℕ × ℕ) → MachineState → List ℕ → List Entry
entries_of n first m [] = []
entries_of n first m (k ∷ ks) = entry_of k (outcome_of n first m k).decided ++ entries_of n first (step n first m k) ks

-- the machine after a schedule
abbrev pub state_after : ℕ → List (ℕ × ℕ) → MachineState → List ℕ → MachineState
state_after n first m [] = m
state_after n first m (k ∷ ks) = state_after n first (step n first m k) ks

-- what the steps of worker k decide under a schedule, in order
abbrev pub decided_by : ℕ → List (ℕ × ℕ) → MachineState → ℕ → List ℕ → List (ℕ × Reply)
decided_by n first m k [] = []
decided_by n first m k (j ∷ ks) =
    (if j == k then option_to_list (outcome_of n first m j).decided else [])
    ++ decided_by n first (step n first m j) k ks
