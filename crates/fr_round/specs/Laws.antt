-- The laws of a round: what holds at each moment, whatever the threads did, that the list of calls only grows, and that
-- each step is one of the machine. A history explains a concurrent object as M. Herlihy and J. Wing define it,
-- "Linearizability: A Correctness Condition for Concurrent Objects", ACM TOPLAS 12(3), 1990.
use Rattle.std.specs.Prelude.{◌≡◌, ℕ, ◌+◌, ◌<◌, ◌≤◌, ◌⊎◌, ◌==◌, if◌then◌else◌, true, false, List, [], ◌∷◌, ◌++◌, map}
use Rattle.std.specs.Prelude.{length, replicate, slice_index, slice_set, Option, Some, None, IsSome}
use Rattle.std.specs.List.{AllByRecursion as Each, flat_map}
use mathlib.Core.Option.{none, some}
use lib.ListN.{get_elem?}
use prog.Atomic.{either}
use Rattle.atomic_table.specs.Table.{State, Step, Me, Allows, Splits, Joins, Enters, keeps, opening, step, stepped}
use Rattle.fr_graph.specs.Links.{IsNet, Points}
use Rattle.fr_graph.specs.Rows.{row}
use Rattle.fr_graph.specs.declared.first.First.{First}
use Rattle.fr_graph.specs.declared.first.First.TheVariants.{Outward, Inward}
use Rattle.fr_core.specs.History.{part}
use Rattle.fr_core.specs.Machine.{Outcome, WorkerState, all_but_first, outcome, neighbour_at, phase_unheld}
use Rattle.fr_core.specs.Runs.{IsRunTo}
use Rattle.fr_core.specs.Targets.{IsLookable, IsTurnable, node_of}
use Rattle.fr_core.specs.declared.entry.Entry.{Entry}
use Rattle.fr_core.specs.declared.entry.Reply.{Reply}
use Rattle.fr_core.specs.declared.targets.Target.{Target}
use Rattle.fr_core.specs.declared.targets.Target.TheVariants.{Turn, Look}
use Rattle.fr_core.specs.declared.worker.Phase.{Phase}
use Rattle.fr_core.specs.declared.worker.Phase.TheVariants.{Idle, Looking, Swapping, Confirming}
use Rattle.fr_round.specs.declared.view.Setup.{Setup}
use Rattle.fr_round.specs.declared.view.View.{View}
use Rattle.fr_round.specs.Histories.{StartsWith, AreApart, entry}
use Rattle.fr_round.specs.Calls.{AllMeet, IsInCall, IsWorker}
use Rattle.fr_round.specs.Rule.{HasList, KeepsRule, closing_view, numbered_next, opening_view, past_view, spent_view}
use Rattle.fr_round.specs.Rule.{with_received, with_taken, worker_view}
use Rattle.fr_round.specs.Steps.{Extends, own_loaded, neighbour_loaded, exchange_made, look_begun, look_ended}
use Rattle.fr_round.specs.Steps.{caught_up}

-- One history behind all

-- the workers at a seat: the one that works there, and those taken back there; each is a number and the history that it
-- knows
abbrev pub workers_at : View → List (ℕ × List Entry)
workers_at v = (if v.works then (v.number, v.known) ∷ [] else []) ++ (if v.closes then v.taken else [])

-- the workers at all seats
abbrev pub workers_of : List View → List (ℕ × List Entry)
workers_of views = flat_map workers_at views

-- a worker knows a prefix of the history, in which its own calls are those that it made
pub record KnowsPartOf (history : List Entry) (w : ℕ × List Entry) : Type 0 where
  pub begins : StartsWith history w.1
  pub own : part w.0 history ≡ part w.0 w.1

-- a history explains the words and what the workers know
pub record StandsBehind (b : Setup) (s : State (Unit {0}) View) (history : List Entry) : Type 0 where
  -- it is a run of full reversal on one thread, from the first links to the words as counts, and the links that these
  -- give contain no cycle
  pub run : IsRunTo b.nodes b.dest b.links history s.words
  -- each of its entries is of a worker with which the round was opened
  pub opened : Each (λ (e : Entry). e.worker < b.workers) history
  -- each worker knows a part of it
  pub parts : Each (KnowsPartOf history) (workers_of s.views)
  -- the workers have different numbers, below the number of workers opened
  pub apart : AreApart (map (λ (w : ℕ × List Entry). w.0) (workers_of s.views))
  pub numbered : Each (λ (w : ℕ × List Entry). w.0 < b.workers) (workers_of s.views)

-- One run explains the words, and what each worker knows, in every state that the rule allows.
abbrev pub OneHistoryStandsBehindAll : Type 0
OneHistoryStandsBehindAll = (b : Setup) (s : State (Unit {0}) View) (ruled : KeepsRule b s)
    → StandsBehind b s ruled.history

-- the state in which a round is opened: the words are 0, and the opening seat is the only one
abbrev pub first_state : Setup → State (Unit {0}) View
first_state b = opening (replicate b.nodes 0) [] (opening_view b)

-- The rule allows the state in which a round is opened, and the empty history explains it.
abbrev pub RuleHoldsAtFirst : Type 0
RuleHoldsAtFirst = (b : Setup) → IsNet b.nodes b.links
    → HasList b [] (first_state b) × StandsBehind b (first_state b) []

-- At the opening the rule allows only words that are 0. No clause reads the words in memory, but the kit requires
-- that the rule allows them.
abbrev pub NoOtherStateIsFirst : Type 0
NoOtherStateIsFirst = (b : Setup) (words : List ℕ) → KeepsRule b (opening {S = Unit {0}} words [] (opening_view b))
    → opening words [] (opening_view b) ≡ first_state b

-- The steps of calls, whatever the other threads do meanwhile. `May` says what each of them may do. Each step shows the seat
-- what `specs/Steps.antt` says of it.
pub record CallSteps (b : Setup) (May : ℕ → ℕ → Me (Unit {0}) View → ℕ → (ℕ → ℕ) → (ℕ → Me (Unit {0}) View → Type 0)
    → Type 0) : Type 0 where
  -- a worker's load of its node's own count, in a turn
  pub own_load : (slots id : ℕ) (me : Me (Unit {0}) View) (x : ℕ) → IsWorker b me.0 → x < b.nodes
      → May slots id me x (λ n. n) (own_loaded (step slots x 0 0 none) me)
  -- the exchange of a count, if each neighbour was seen to meet its bound for this count
  pub exchange : (slots id : ℕ) (me : Me (Unit {0}) View) (x c : ℕ) → IsWorker b me.0
      → IsTurnable b.nodes b.dest b.links x → c < b.nodes → c ≤ slice_index me.0.seen x → AllMeet b.links me.0.seen x c
      → May slots id me x (λ n. either (n == c) (c + 1) n) (exchange_made (step slots x c (c + 1) none) me)
  -- the load of a neighbour's count, in a turn and in a look
  pub along : (slots id : ℕ) (me : Me (Unit {0}) View) (x c w : ℕ) → IsInCall b x c me.0 → Points b.links x w
      → May slots id me w (λ n. n) (neighbour_loaded 1 (step slots w 0 0 none) me)
  pub against : (slots id : ℕ) (me : Me (Unit {0}) View) (x c w : ℕ) → IsInCall b x c me.0 → Points b.links w x
      → May slots id me w (λ n. n) (neighbour_loaded 0 (step slots w 0 0 none) me)
  -- the two loads of the own count, in a look
  pub look_begins : (slots id : ℕ) (me : Me (Unit {0}) View) (x : ℕ) → IsWorker b me.0
      → May slots id me x (λ n. n) (look_begun (step slots x 0 0 none) me)
  pub look_ends : (slots id : ℕ) (me : Me (Unit {0}) View) (x c : ℕ) → IsInCall b x c me.0
      → IsLookable b.nodes b.links x → AllMeet b.links me.0.seen x c
      → May slots id me x (λ n. n) (look_ended (step slots x 0 0 none) me)
  -- and the load by which it catches up
  pub catches_up : (slots id : ℕ) (me : Me (Unit {0}) View) (x : ℕ) → IsWorker b me.0
      → May slots id me x (λ n. n) (caught_up (step slots x 0 0 none) me)

-- the other steps of seats: how the opening seat gives out a number, how a closing seat enters and takes a worker back, how
-- what a worker knows gets a seat of its own, and how another worker takes that in
pub record SeatSteps (b : Setup) (holds : State (Unit {0}) View → Type 0) : Type 0 where
  pub numbers : (id : ℕ) (v : View) → v.opens ≡ true → v.works ≡ false → v.closes ≡ false → v.next < b.workers
      → Splits {S = Unit {0}} holds id v (numbered_next v) (worker_view v)
  pub closing_comes : (slots x : ℕ) (v : View) → v.setup ≡ b
      → Enters {S = Unit {0}} holds slots x (λ n w. w ≡ closing_view v.setup)
  pub takes_back : (id : ℕ) (v : View) (other : ℕ) (w : View) → v.closes ≡ true → v.works ≡ false → v.opens ≡ false
      → w.works ≡ true → Joins {S = Unit {0}} holds id v other w (with_taken v w) spent_view
  pub hands_on : (id : ℕ) (v : View) → Splits {S = Unit {0}} holds id v v (past_view v)
  pub receives : (id : ℕ) (v : View) (other : ℕ) (w : View)
      → Joins {S = Unit {0}} holds id v other w (with_received v w) spent_view

-- each step at a seat leads from a state that the rule allows to another such state
pub record StepsKeepTheRule (b : Setup) : Type 0 where
  pub calls : CallSteps b (Allows (KeepsRule b))
  pub seats : SeatSteps b (KeepsRule b)

-- Each step of a worker leads from a state that the rule allows to another such state, whatever other threads do.
abbrev pub EveryStepKeepsTheRule : Type 0
EveryStepKeepsTheRule = (b : Setup) → StepsKeepTheRule b

-- The list of calls grows at its end. A call's steps come between its beginning and its end, and the step that decides it
-- adds its entry. `CallsAreLinearizable` of fr_laws says what follows for the order of calls in time.

-- a step leaves the list as it was, and the seat knows no other call of its worker then; or it adds one entry at the end of
-- the list: a call of the seat's worker, which then knows the whole list, and of its own calls this one more
abbrev pub IsGrown : List Entry → View → View → List Entry → Type 0
IsGrown before v w after = ((after ≡ before) × (part v.number w.known ≡ part v.number v.known))
    ⊎ ((e : Entry) × (e.worker ≡ v.number) × (after ≡ before ++ e ∷ []) × (w.known ≡ after)
    × (part v.number w.known ≡ part v.number v.known ++ e ∷ []))

-- `Allows` of the kit for a step that takes and gives no slot, where the list grows in this way
abbrev pub Grows : {S : Type 0} → Setup → ℕ → ℕ → Me S View → ℕ → (ℕ → ℕ) → (ℕ → Me S View → Type 0) → Type 0
Grows {S} b slots id me i f tells = (s : State S View) (ruled : KeepsRule b s) → length s.homes ≡ slots
    → get_elem? s.views id ≡ some me.0 → slice_index s.words i < 18446744073709551616
    → (w : View) × (after : List Entry) × HasList b after (stepped s i (f (slice_index s.words i)) id me.1 w keeps)
    × tells (slice_index s.words i) (w, me.1) × IsGrown ruled.history me.0 w after

-- only steps of calls change the list, and they change it in this way
pub record StepsGrowTheList (b : Setup) : Type 0 where
  pub calls : CallSteps b (Grows b)
  pub seats : (list : List Entry) → SeatSteps b (HasList b list)

-- The list of calls only grows. A step adds the call that it decides, at the end of the list.
abbrev pub EveryStepGrowsTheList : Type 0
EveryStepGrowsTheList = (b : Setup) → StepsGrowTheList b

-- Each step is the machine's

-- the worker's known history gains what the machine decides at this step, and is unchanged if the machine decides
-- nothing
abbrev pub IsDecidedAs : View → View → Option (ℕ × Reply) → Type 0
IsDecidedAs v w None = w.known ≡ v.known
IsDecidedAs v w (Some d) = Extends v.setup v.number v.known (entry v.number d.0 d.1) w.known

-- the machine's worker after a step: in this phase if the step decides nothing, otherwise idle, with its first target
-- used up
abbrev pub worker_after : List Target → Phase → Option (ℕ × Reply) → WorkerState
worker_after targets phase None = record { left = targets; phase = phase }
worker_after targets phase (Some d) = record { left = all_but_first targets; phase = Idle }

-- a step that changes a worker's view from v to w has the same result as the machine's step
pub record ComesToTheSame (v w : View) (words : List ℕ) (targets : List Target) (phase : Phase)
    (o : Outcome) : Type 0 where
  -- the machine's counts are the words after the step
  pub counts : o.counts ≡ words
  -- the worker's known history gains what the machine decides
  pub decided : IsDecidedAs v w o.decided
  -- if the machine decides nothing, its worker continues in this phase
  pub worker : o.worker ≡ worker_after targets phase o.decided

-- The load of a node's own count is the first step of the machine's call, with the same words. The words are unchanged.
-- If nothing is decided, the machine looks at neighbour 0 next, with the node and the count of the view.
abbrev pub OwnLoadIsTheMachines : Type 0
OwnLoadIsTheMachines = (s : Step (Unit {0})) (me me' : Me (Unit {0}) View) (found : ℕ) (first : List (ℕ × ℕ))
    (words : List ℕ) (rest : List Target) → slice_index words s.word ≡ found
    → own_loaded s me found me'
    → ComesToTheSame me.0 me'.0 words (Turn s.word ∷ rest) (Looking (Turn me'.0.node) me'.0.count 0)
    (outcome me.0.setup.nodes first words (Turn s.word ∷ rest) Idle)

-- how far the bound of a neighbour is above the own count
abbrev pub more_of : First → ℕ
more_of Outward = 1
more_of Inward = 0

-- the phase after neighbour j of a row met its bound: the next neighbour, or after the last one the step that ends the
-- call
abbrev pub phase_past : List (ℕ × First) → Target → ℕ → ℕ → Phase
phase_past neighbours t c j = if j + 1 == length neighbours then phase_unheld t c else Looking t c (j + 1)

-- The load of a neighbour's count is the machine's load of it, in a turn and in a look. The words are unchanged. If
-- nothing is decided, the machine continues after this neighbour, with the node and the count of the view.
abbrev pub NeighbourLoadIsTheMachines : Type 0
NeighbourLoadIsTheMachines = (s : Step (Unit {0})) (me me' : Me (Unit {0}) View) (found j : ℕ) (f : First) (t : Target)
    (first : List (ℕ × ℕ)) (words : List ℕ) (targets : List Target) → slice_index words s.word ≡ found
    → node_of t ≡ me.0.node → neighbour_at (row me.0.setup.nodes first me.0.node) j ≡ (s.word, f)
    → neighbour_loaded (more_of f) s me found me'
    → ComesToTheSame me.0 me'.0 words targets (phase_past (row me.0.setup.nodes first me.0.node) t me'.0.count j)
    (outcome me.0.setup.nodes first words targets (Looking t me.0.count j))

-- The exchange of a count for the next one is the machine's exchange. If the word was that count, it becomes the next
-- one; otherwise it is unchanged. The call is decided.
abbrev pub ExchangeIsTheMachines : Type 0
ExchangeIsTheMachines = (s : Step (Unit {0})) (me me' : Me (Unit {0}) View) (found : ℕ) (first : List (ℕ × ℕ))
    (words : List ℕ) (targets : List Target) → slice_index words s.word ≡ found
    → exchange_made s me found me'
    → ComesToTheSame me.0 me'.0 (slice_set words s.word (if found == s.first then s.first + 1 else found)) targets Idle
    (outcome me.0.setup.nodes first words targets (Swapping s.word s.first))
    × IsSome (outcome me.0.setup.nodes first words targets (Swapping s.word s.first)).decided

-- The first load of a look is the first step of the machine's look. The words are unchanged, and the machine looks at
-- neighbour 0 next, with the node and the count of the view.
abbrev pub LookBeginsAsTheMachines : Type 0
LookBeginsAsTheMachines = (s : Step (Unit {0})) (me me' : Me (Unit {0}) View) (found : ℕ) (first : List (ℕ × ℕ))
    (words : List ℕ) (rest : List Target) → slice_index words s.word ≡ found
    → look_begun s me found me'
    → ComesToTheSame me.0 me'.0 words (Look s.word ∷ rest) (Looking (Look me'.0.node) me'.0.count 0)
    (outcome me.0.setup.nodes first words (Look s.word ∷ rest) Idle)

-- The second load of a look is the machine's. The words are unchanged, and the call is decided.
abbrev pub LookEndsAsTheMachines : Type 0
LookEndsAsTheMachines = (s : Step (Unit {0})) (me me' : Me (Unit {0}) View) (found : ℕ) (first : List (ℕ × ℕ))
    (words : List ℕ) (targets : List Target) → slice_index words s.word ≡ found
    → look_ended s me found me'
    → ComesToTheSame me.0 me'.0 words targets Idle
    (outcome me.0.setup.nodes first words targets (Confirming s.word me.0.count))
    × IsSome (outcome me.0.setup.nodes first words targets (Confirming s.word me.0.count)).decided
