-- The values of a round and of its workers in contracts. This project's own.
use Rattle.std.specs.Prelude.{◌≡◌, ◌≢◌, ◌⊎◌, ℕ, zero, suc, ◌<◌, ◌≤◌, List, [], ◌∷◌, ◌++◌, slice_index, replicate}
use Rattle.atomic_table.specs.Seated.{TableId}
use Rattle.fr_graph.specs.Links.{IsAlone}
use Rattle.fr_core.specs.History.{part, turn_count_of}
use Rattle.fr_core.specs.Limits.{most_workers}
use Rattle.fr_core.specs.declared.entry.Entry.{Entry}
use Rattle.fr_round.specs.declared.view.Setup.{Setup}
use Rattle.fr_round.specs.declared.faults.Refusal.{Refusal}
use Rattle.fr_round.specs.declared.faults.Refusal.TheVariants.{NoNode, Destination, Alone}
use Rattle.fr_round.specs.declared.faults.OpenWhy.{OpenWhy}
use Rattle.fr_round.specs.declared.faults.OpenWhy.TheVariants.{Range, Memory}
use Rattle.fr_core.specs.declared.entry.Reply.{Reply}
use Rattle.fr_round.specs.Calls.{ShowsCount}
use Rattle.fr_round.specs.Histories.{IsHistory, StartsWith, entry}
use Rattle.fr_round.specs.Steps.{Extends}

-- a worker: the table of words of its round, and the setup of the round; its number; the history up to its last call;
-- and counts that the nodes had reached
pub record Knowledge : Type 0 where
  pub table : TableId
  pub setup : Setup
  pub number : ℕ
  pub known : List Entry
  pub seen : List ℕ

-- what a worker knew at a moment, as a value that threads hand on: the table of words of its round, and the history
pub record KnownPast : Type 0 where
  pub table : TableId
  pub known : List Entry

abbrev pub past_of : Knowledge → KnownPast
past_of k = record { table = k.table; known = k.known }

-- an open round: its table of words, and its setup
pub record OpenRound : Type 0 where
  pub table : TableId
  pub setup : Setup

-- the worker belongs to this round; no other round has this table
pub record IsOwn (r : OpenRound) (w : Knowledge) : Type 0 where
  pub table : w.table ≡ r.table
  pub setup : w.setup ≡ r.setup

-- what a worker knows is true: the history is a run, and no seen count is greater than the turns in it
pub record IsKnowledge (k : Knowledge) : Type 0 where
  pub run : IsHistory k.setup k.known
  pub below : (z : ℕ) → slice_index k.seen z ≤ turn_count_of z k.known

-- the same worker at a later time
pub record KeepsWorker (before after : Knowledge) : Type 0 where
  -- it belongs to the same round
  pub table : after.table ≡ before.table
  pub setup : after.setup ≡ before.setup
  -- it has the same number
  pub number : after.number ≡ before.number
  -- no count that it has seen has fallen
  pub seen : (z : ℕ) → slice_index before.seen z ≤ slice_index after.seen z

-- a worker learns the reply to its call on x
pub record LearnsReply (before : Knowledge) (x : ℕ) (reply : Reply) (after : Knowledge) : Type 0 where
  -- its history is extended by calls of others and ends with this call, and its own part gains exactly this call
  pub history : Extends before.setup before.number before.known (entry before.number x reply) after.known
  -- it has seen the count that the reply has
  pub count : ShowsCount before.setup.nodes before.seen after.seen x reply
  -- and what it knows is true
  pub known : IsKnowledge after

-- a worker learns what another one knew:
pub record LearnsPast (before : Knowledge) (past : KnownPast) (after : Knowledge) : Type 0 where
  -- it is the same worker, and has seen the same counts,
  pub same : after ≡ record before { known = after.known }
  -- what both knew are beginnings of what it knows now,
  pub keeps : StartsWith after.known before.known
  pub learns : StartsWith after.known past.known
  -- in which its own calls are those that it has made,
  pub own : part before.number after.known ≡ part before.number before.known
  -- and what it knows is true
  pub known : IsKnowledge after

-- when a call on x is refused with each refusal, in the order of the tests
abbrev pub Refuses : Setup → ℕ → Refusal → Type 0
Refuses b x NoNode = b.nodes ≤ x
Refuses b x Destination = (x < b.nodes) × (x ≡ b.dest)
Refuses b x Alone = (x < b.nodes) × (x ≢ b.dest) × IsAlone b.links x

-- the same for a look, which the destination can have, too
abbrev pub RefusesLook : Setup → ℕ → Refusal → Type 0
RefusesLook b x NoNode = b.nodes ≤ x
RefusesLook b x Destination = ⊥
RefusesLook b x Alone = (x < b.nodes) × IsAlone b.links x

-- worker k before its first call
abbrev pub new_worker : TableId → Setup → ℕ → Knowledge
new_worker t b k = record { table = t; setup = b; number = k; known = []; seen = replicate b.nodes 0 }

-- the workers with the numbers below k, in order
abbrev pub new_workers : TableId → Setup → ℕ → List Knowledge
new_workers t b zero = []
new_workers t b (suc k) = new_workers t b k ++ new_worker t b k ∷ []

-- the destination is a node, and the number of workers is from 1 to the limit
pub record IsOpenable (nodes dest workers : ℕ) : Type 0 where
  pub destination : dest < nodes
  pub some : 1 ≤ workers
  pub few : workers ≤ most_workers

-- why no round is opened
abbrev pub IsWhyNotOpened : ℕ → ℕ → ℕ → OpenWhy → Type 0
IsWhyNotOpened nodes dest workers Range = (nodes ≤ dest) ⊎ (workers ≡ 0) ⊎ (most_workers < workers)
IsWhyNotOpened nodes dest workers Memory = IsOpenable nodes dest workers
