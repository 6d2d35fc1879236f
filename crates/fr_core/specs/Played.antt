-- What a machine does under a schedule. This project's own.
use Rattle.std.specs.Prelude.{◌≡◌, ℕ, List, [], ◌++◌, map, slice_index_or}
use Rattle.fr_core.specs.History.{part}
use Rattle.fr_core.specs.Machine.{MachineState, start, worker_of, entries_of, state_after, decided_by}
use Rattle.fr_core.specs.Replies.{AreAnswersTo}
use Rattle.fr_core.specs.Runs.{IsRunTo}
use Rattle.fr_core.specs.Targets.{IsPlayable}
use Rattle.fr_core.specs.declared.entry.Entry.{Entry}
use Rattle.fr_core.specs.declared.entry.Reply.{Reply}
use Rattle.fr_core.specs.declared.targets.Target.{Target}

-- the value of a machine in contracts: the network, the destination and the state
pub record MachineView : Type 0 where
  pub nodes : ℕ
  pub dest : ℕ
  pub links : List (ℕ × ℕ)
  pub state : MachineState

abbrev pub started : ℕ → ℕ → List (ℕ × ℕ) → List (List Target) → MachineView
started n d links targets = record { nodes = n; dest = d; links = links; state = start n targets }

-- the node and the reply of a decided call
abbrev pub answer_of : Entry → ℕ × Reply
answer_of e = (e.node, e.reply)

-- the part of worker k of the entries: what its steps decide, in order, an answer to each target that it has used up
pub record HasPart (n : ℕ) (first : List (ℕ × ℕ)) (targets : List (List Target)) (schedule : List ℕ)
    (entries : List Entry) (k : ℕ) : Type 0 where
  pub replies : map answer_of (part k entries) ≡ decided_by n first (start n targets) k schedule
  pub used : List Target
  pub used_up : used ++ (worker_of (state_after n first (start n targets) schedule) k).left
      ≡ slice_index_or targets k []
  pub answers : AreAnswersTo used (map answer_of (part k entries))

-- what a schedule makes of a machine before its first step
pub record IsPlay (n d : ℕ) (first : List (ℕ × ℕ)) (targets : List (List Target)) (schedule : List ℕ)
    (entries : List Entry) : Type 0 where
  -- there is no fault
  pub playable : IsPlayable n d first targets schedule
  -- the entries are those that the steps of the schedule decide, in order
  pub decided : entries ≡ entries_of n first (start n targets) schedule
  -- they are a run to the counts of the machine
  pub run : IsRunTo n d first entries (state_after n first (start n targets) schedule).counts
  -- each worker's part of them is its replies
  pub parts : (k : ℕ) → HasPart n first targets schedule entries k

-- the steps of some schedule, which decided these entries, brought the machine from its start with these targets to its
-- state
pub record HasCome (m : MachineView) (targets : List (List Target)) (entries : List Entry) : Type 0 where
  pub schedule : List ℕ
  pub play : IsPlay m.nodes m.dest m.links targets schedule entries
  pub state : m.state ≡ state_after m.nodes m.links (start m.nodes targets) schedule
