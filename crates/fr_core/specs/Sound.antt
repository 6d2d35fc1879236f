-- What holds of a machine between two steps, and what a worker needs for its step. For proofs only.
use Rattle.std.specs.Prelude.{◌≡◌, ℕ, ◌<◌, ◌≤◌, List, ◌++◌, length, slice_get, slice_index, Option, Some}
use Rattle.std.specs.List.{All}
use Rattle.fr_graph.specs.Counts.{AreLawful}
use Rattle.fr_graph.specs.Links.{IsNet}
use Rattle.fr_graph.specs.Rows.{row}
use Rattle.fr_core.specs.Machine.{WorkerState, MachineState, Outcome, neighbour_at, bound_of, entries_of}
use Rattle.fr_core.specs.Played.{MachineView}
use Rattle.fr_core.specs.Targets.{node_of, IsTargetRefused, IsTurnable, IsLookable}
use Rattle.fr_core.specs.declared.entry.Entry.{Entry}
use Rattle.fr_core.specs.declared.entry.Reply.{Reply}
use Rattle.fr_core.specs.declared.targets.Target.{Target}
use Rattle.fr_core.specs.declared.targets.Target.TheVariants.{Turn, Look}
use Rattle.fr_core.specs.declared.worker.Phase.{Phase}
use Rattle.fr_core.specs.declared.worker.Phase.TheVariants.{Idle, Looking, Swapping, Confirming}

abbrev pub IsFit : ℕ → ℕ → List (ℕ × ℕ) → Target → Type 0
IsFit n d first (Turn x) = IsTurnable n d first x
IsFit n d first (Look x) = IsLookable n first x

-- the call continues with this count; a look continues at the cap, too
abbrev pub IsInRange : ℕ → Target → ℕ → Type 0
IsInRange n (Turn x) c = c < n
IsInRange n (Look x) c = c ≤ n

-- the first target of a list that is refused
pub record IsFirstRefused (n d : ℕ) (links : List (ℕ × ℕ)) (list : List Target) (at : ℕ) : Type 0 where
  pub target : Target
  pub here : slice_get list at ≡ Some target
  pub refused : IsTargetRefused n d links target
  pub first : (i : ℕ) (t : Target) → slice_get list i ≡ Some t → i < at → ¬ IsTargetRefused n d links t

-- what a call relies on after it has loaded the count c of its node: the first j neighbours meet their bounds
pub record IsUnderWay (n d : ℕ) (first : List (ℕ × ℕ)) (counts : List ℕ) (t : Target) (c j : ℕ) : Type 0 where
  pub fit : IsFit n d first t
  pub low : c ≤ slice_index counts (node_of t)
  pub in_range : IsInRange n t c
  pub enough : (i : ℕ) → i < j
      → bound_of (neighbour_at (row n first (node_of t)) i).1 c
      ≤ slice_index counts (neighbour_at (row n first (node_of t)) i).0

abbrev pub IsSoundPhase : ℕ → ℕ → List (ℕ × ℕ) → List ℕ → Phase → Type 0
IsSoundPhase n d first counts Idle = Unit {0}
IsSoundPhase n d first counts (Looking t c j) = IsUnderWay n d first counts t c j
    × (j < length (row n first (node_of t)))
IsSoundPhase n d first counts (Swapping x c) = IsUnderWay n d first counts (Turn x) c (length (row n first x))
IsSoundPhase n d first counts (Confirming x c) = IsUnderWay n d first counts (Look x) c (length (row n first x))

pub record IsSoundWorker (n d : ℕ) (first : List (ℕ × ℕ)) (counts : List ℕ) (worker : WorkerState) : Type 0 where
  pub fit : All (IsFit n d first) worker.left
  pub phase : IsSoundPhase n d first counts worker.phase

pub record IsSound (n d : ℕ) (first : List (ℕ × ℕ)) (m : MachineState) : Type 0 where
  pub lawful : AreLawful n d first m.counts
  pub workers : All (IsSoundWorker n d first m.counts) m.workers

-- what holds of a machine at all times
pub record IsSoundMachine (m : MachineView) : Type 0 where
  pub net : IsNet m.nodes m.links
  pub sound : IsSound m.nodes m.dest m.links m.state

-- the node of a target is below n
abbrev pub IsOnNode : ℕ → Target → Type 0
IsOnNode n t = node_of t < n

-- the nodes and places of a phase exist
abbrev pub IsPhaseInside : ℕ → List (ℕ × ℕ) → Phase → Type 0
IsPhaseInside n first Idle = Unit {0}
IsPhaseInside n first (Looking t c j) = (node_of t < n) × (c ≤ n) × (j < length (row n first (node_of t)))
IsPhaseInside n first (Swapping x c) = (x < n) × (c < n)
IsPhaseInside n first (Confirming x c) = x < n

pub record CanStep (n : ℕ) (first : List (ℕ × ℕ)) (worker : WorkerState) : Type 0 where
  pub left : All (IsOnNode n) worker.left
  pub phase : IsPhaseInside n first worker.phase

-- the value of a machine, from its fields
abbrev pub view_of : ℕ → ℕ → List (ℕ × ℕ) → List ℕ → List WorkerState → MachineView
view_of n d links counts workers = record {
  nodes = n;
  dest = d;
  links = links;
  state = record { counts = counts; workers = workers };
}

abbrev pub outcome_with : List ℕ → WorkerState → Option (ℕ × Reply) → Outcome
outcome_with counts worker decided = record { counts = counts; worker = worker; decided = decided }

-- part of the way through a schedule: from the machine `begun` these entries have come, the machine is `now`, and the
-- rest is still to come
pub record IsOnTheWay (begun now : MachineView) (entries : List Entry) (rest whole : List ℕ) : Type 0 where
  pub nodes : now.nodes ≡ begun.nodes
  pub dest : now.dest ≡ begun.dest
  pub links : now.links ≡ begun.links
  pub workers : length now.state.workers ≡ length begun.state.workers
  pub come : entries ++ entries_of now.nodes now.links now.state rest
      ≡ entries_of begun.nodes begun.links begun.state whole
