-- The order of calls in time. Calls of a round are linearizable (M. Herlihy and J. Wing, "Linearizability: A Correctness
-- Condition for Concurrent Objects", ACM TOPLAS 12(3), 1990): they form one list, in which each reply is the right one, and
-- of two calls of which one ended before the other began, that one comes first. First for executions, as an observer of all
-- steps sees them, and then for callers, who see only what their workers know. A caller learns of the order in time by what
-- one worker hands on after a call (`Round::past`) and another one learns (`Round::learn`).
use Rattle.std.specs.Prelude.{◌≡◌, ◌++◌, ◌+◌, ◌==◌, ◌<◌, ◌≤◌, ◌⊎◌, ℕ, true, false, List, [], ◌∷◌, slice_index, slice_set}
use Rattle.std.specs.Prelude.{Contains, length, refl}
use mathlib.Core.Option.{none, some}
use lib.ListN.{get_elem?}
use prog.Atomic.{either}
use Rattle.atomic_table.specs.Table.{Enters, Joins, Me, Splits, State, keeps, step, stepped}
use Rattle.fr_graph.specs.Links.{IsNet, Points}
use Rattle.fr_core.specs.History.{part}
use Rattle.fr_core.specs.Legal.{IsLegal}
use Rattle.fr_core.specs.Targets.{IsLookable, IsTurnable}
use Rattle.fr_core.specs.declared.entry.Entry.{Entry}
use Rattle.fr_core.specs.declared.entry.Reply.{Reply}
use Rattle.fr_core.specs.declared.entry.Reply.TheVariants.{Turned, Held}
use Rattle.fr_round.specs.Calls.{AllMeet, IsInCall, IsWorker}
use Rattle.fr_round.specs.Histories.{StartsWith, entry, moment, reached}
use Rattle.fr_round.specs.Knowledge.{KeepsWorker, Knowledge, KnownPast, LearnsPast, LearnsReply}
use Rattle.fr_round.specs.Laws.{Grows, StandsBehind, StepsGrowTheList, first_state, workers_of}
use Rattle.fr_round.specs.Rule.{HasList, closing_view, numbered_next, past_view, spent_view, with_received}
use Rattle.fr_round.specs.Rule.{with_taken, worker_view}
use Rattle.fr_round.specs.Steps.{caught_up, exchange_made, look_begun, look_ended, neighbour_loaded, own_loaded}
use Rattle.fr_round.specs.declared.view.Setup.{Setup}
use Rattle.fr_round.specs.declared.view.View.{View}

-- Executions

-- a moment of a round: a state that the rule allows, with its list of calls
pub record Moment (b : Setup) : Type 0 where
  pub state : State (Unit {0}) View
  pub list : List Entry
  pub has : HasList b list state

-- The steps of seats. `law` is any proof of the clause `grows` of `round_law` of fr_round. A step takes the seat's new
-- view and the new list from this proof, and nothing more is assumed of them.
module _ (b : Setup) (law : StepsGrowTheList b) (p : Moment b) where
  abbrev views : List View
  views = p.state.views

  abbrev slots : ℕ
  slots = length p.state.homes

  -- the moment after a step that changes only what seats know
  abbrev seated : (vs : List View)
      → HasList b p.list (record { words = p.state.words; homes = p.state.homes; views = vs }) → Moment b
  seated vs has = record {
    state = record { words = p.state.words; homes = p.state.homes; views = vs };
    list = p.list;
    has = has;
  }

  -- a seat loads or exchanges this word
  pub record IsAt (id : ℕ) (me : Me (Unit {0}) View) (word : ℕ) : Type 0 where
    pub seat : get_elem? views id ≡ some me.0
    pub in_range : slice_index p.state.words word < 18446744073709551616

  -- the moment after a step of a call
  abbrev pub called : (id : ℕ) (me : Me (Unit {0}) View) (word : ℕ) (becomes : ℕ → ℕ)
      (tells : ℕ → Me (Unit {0}) View → Type 0) → Grows b slots id me word becomes tells → IsAt id me word → Moment b
  called id me word becomes tells grows here =
      let grown = grows p.state p.has.0 refl here.seat here.in_range in
      record {
        state = stepped p.state word (becomes (slice_index p.state.words word)) id me.1 grown.0 keeps;
        list = grown.1;
        has = grown.2;
      }

  -- the moment after a seat was cut in two
  abbrev pub cut_in_two : (id : ℕ) (v left right : View) → Splits {S = Unit {0}} (HasList b p.list) id v left right
      → get_elem? views id ≡ some v → Moment b
  cut_in_two id v left right splits here =
      seated (slice_set views id left ++ right ∷ []) (splits p.state p.has here)

  -- the moment after a new seat came, which has loaded this word
  abbrev pub entered : (x : ℕ) (fits : ℕ → View → Type 0) → Enters {S = Unit {0}} (HasList b p.list) slots x fits
      → slice_index p.state.words x < 18446744073709551616 → Moment b
  entered x fits enters in_range =
      let came = enters p.state p.has refl in_range in seated (views ++ came.0 ∷ []) came.1

  -- the views of two seats, of which the first takes in the other one
  pub record AreTwo (id : ℕ) (v : View) (other : ℕ) (w both : View) : Type 0 where
    pub here : get_elem? views id ≡ some v
    pub apart : ¬ (other ≡ id)
    pub there : get_elem? (slice_set views id both) other ≡ some w

  -- the moment after that
  abbrev pub taken_in : (id : ℕ) (v : View) (other : ℕ) (w both spent : View)
      → Joins {S = Unit {0}} (HasList b p.list) id v other w both spent → AreTwo id v other w both → Moment b
  taken_in id v other w both spent joins two =
      seated (slice_set (slice_set views id both) other spent) (joins p.state p.has two.here two.apart two.there)

  -- the next moment, by one of the steps that `StepsGrowTheList` lists
  pub data Next : Moment b → Type 0 where
    own_load : (id : ℕ) (me : Me (Unit {0}) View) (x : ℕ) (worker : IsWorker b me.0) (inside : x < b.nodes)
        (here : IsAt id me x)
        → Next (called id me x (λ n. n) (own_loaded (step slots x 0 0 none) me)
        (law.calls.own_load slots id me x worker inside) here)
    exchange : (id : ℕ) (me : Me (Unit {0}) View) (x c : ℕ) (worker : IsWorker b me.0)
        (turnable : IsTurnable b.nodes b.dest b.links x) (below : c < b.nodes) (seen : c ≤ slice_index me.0.seen x)
        (met : AllMeet b.links me.0.seen x c) (here : IsAt id me x)
        → Next (called id me x (λ n. either (n == c) (c + 1) n) (exchange_made (step slots x c (c + 1) none) me)
        (law.calls.exchange slots id me x c worker turnable below seen met) here)
    along : (id : ℕ) (me : Me (Unit {0}) View) (x c w : ℕ) (in_call : IsInCall b x c me.0)
        (points : Points b.links x w) (here : IsAt id me w)
        → Next (called id me w (λ n. n) (neighbour_loaded 1 (step slots w 0 0 none) me)
        (law.calls.along slots id me x c w in_call points) here)
    against : (id : ℕ) (me : Me (Unit {0}) View) (x c w : ℕ) (in_call : IsInCall b x c me.0)
        (points : Points b.links w x) (here : IsAt id me w)
        → Next (called id me w (λ n. n) (neighbour_loaded 0 (step slots w 0 0 none) me)
        (law.calls.against slots id me x c w in_call points) here)
    look_begins : (id : ℕ) (me : Me (Unit {0}) View) (x : ℕ) (worker : IsWorker b me.0) (here : IsAt id me x)
        → Next (called id me x (λ n. n) (look_begun (step slots x 0 0 none) me)
        (law.calls.look_begins slots id me x worker) here)
    look_ends : (id : ℕ) (me : Me (Unit {0}) View) (x c : ℕ) (in_call : IsInCall b x c me.0)
        (lookable : IsLookable b.nodes b.links x) (met : AllMeet b.links me.0.seen x c) (here : IsAt id me x)
        → Next (called id me x (λ n. n) (look_ended (step slots x 0 0 none) me)
        (law.calls.look_ends slots id me x c in_call lookable met) here)
    catches_up : (id : ℕ) (me : Me (Unit {0}) View) (x : ℕ) (worker : IsWorker b me.0) (here : IsAt id me x)
        → Next (called id me x (λ n. n) (caught_up (step slots x 0 0 none) me)
        (law.calls.catches_up slots id me x worker) here)
    numbers : (id : ℕ) (v : View) (opens : v.opens ≡ true) (idle : v.works ≡ false) (not_closing : v.closes ≡ false)
        (more : v.next < b.workers) (here : get_elem? views id ≡ some v)
        → Next (cut_in_two id v (numbered_next v) (worker_view v)
        ((law.seats p.list).numbers id v opens idle not_closing more) here)
    closing_comes : (x : ℕ) (v : View) (setup : v.setup ≡ b)
        (in_range : slice_index p.state.words x < 18446744073709551616)
        → Next (entered x (λ n w. w ≡ closing_view v.setup)
        ((law.seats p.list).closing_comes slots x v setup) in_range)
    takes_back : (id : ℕ) (v : View) (other : ℕ) (w : View) (closes : v.closes ≡ true) (idle : v.works ≡ false)
        (not_opening : v.opens ≡ false) (works : w.works ≡ true) (two : AreTwo id v other w (with_taken v w))
        → Next (taken_in id v other w (with_taken v w) spent_view
        ((law.seats p.list).takes_back id v other w closes idle not_opening works) two)
    hands_on : (id : ℕ) (v : View) (here : get_elem? views id ≡ some v)
        → Next (cut_in_two id v v (past_view v) ((law.seats p.list).hands_on id v) here)
    receives : (id : ℕ) (v : View) (other : ℕ) (w : View) (two : AreTwo id v other w (with_received v w))
        → Next (taken_in id v other w (with_received v w) spent_view ((law.seats p.list).receives id v other w) two)

-- an execution: the moments between the steps, of whatever threads, from the opening of the round
pub record Execution (b : Setup) (law : StepsGrowTheList b) : Type 0 where
  pub at : ℕ → Moment b
  pub first : (at 0).state ≡ first_state b
  pub none : (at 0).list ≡ []
  pub steps : (t : ℕ) → Next b law (at t) (at (t + 1))

module _ (b : Setup) (law : StepsGrowTheList b) (x : Execution b law) where
  -- a call of an execution, as its worker knows it: of its own calls the worker knew one more when the call ended than
  -- when it began. `LearnsReply` of fr_round promises this of each decided call
  pub record CallIn : Type 0 where
    pub began : ℕ
    pub ended : ℕ
    pub forth : began ≤ ended
    pub number : ℕ
    pub before : List Entry
    pub after : List Entry
    pub knew : Contains (workers_of (x.at began).state.views) (number, before)
    pub knows : Contains (workers_of (x.at ended).state.views) (number, after)
    pub entry : Entry
    pub own : part number after ≡ part number before ++ entry ∷ []

  -- one step between the call's beginning and its end adds its entry to the list
  abbrev pub IsDecided : CallIn → Type 0
  IsDecided c = (t : ℕ) × (c.began ≤ t) × (t < c.ended) × ((x.at (t + 1)).list ≡ (x.at t).list ++ c.entry ∷ [])

  -- At each moment the list explains the state: it is a run of full reversal on one thread to the words, and each
  -- worker knows a prefix of it. One step of each call adds its entry. And a call that ended before another one
  -- began comes first.
  pub record IsLinearizable : Type 0 where
    pub explains : (t : ℕ) → StandsBehind b (x.at t).state (x.at t).list
    pub decided : (c : CallIn) → IsDecided c
    pub order : (c d : CallIn) → c.ended ≤ d.began
        → (between : List Entry)
        × ((x.at ((decided d).0 + 1)).list ≡ ((x.at ((decided c).0 + 1)).list ++ between) ++ d.entry ∷ [])

-- One list explains each state of an execution. One step of each call adds the call to this list, so a call that
-- ended before another began comes first: calls are linearizable (Herlihy and Wing, 1990).
abbrev pub CallsAreLinearizable : Type 0
CallsAreLinearizable = (b : Setup) (law : StepsGrowTheList b) (x : Execution b law) → IsLinearizable b law x

-- Callers

-- a decided call as a caller sees it: what its worker knew before it, the node, the reply, and what the worker knows after
-- it
pub record Call : Type 0 where
  pub before : Knowledge
  pub node : ℕ
  pub reply : Reply
  pub after : Knowledge

-- as `Round::try_turn` and `Round::look` promise it
pub record IsCall (c : Call) : Type 0 where
  pub keeps : KeepsWorker c.before c.after
  pub learns : LearnsReply c.before c.node c.reply c.after

abbrev pub entry_of : Call → Entry
entry_of c = entry c.before.number c.node c.reply

-- the call was made by a worker that knew all that the worker of an earlier call knew after that
abbrev pub Knows : Call → Call → Type 0
Knows call earlier = StartsWith call.before.known earlier.after.known

-- what a worker knows it goes on to know, over its own calls and over what it learns; and it knows what it has learned
pub record IsKept (before after : Knowledge) : Type 0 where
  pub calls : (x : ℕ) (reply : Reply) → LearnsReply before x reply after → StartsWith after.known before.known
  pub own : (past : KnownPast) → LearnsPast before past after → StartsWith after.known before.known
  pub others : (past : KnownPast) → LearnsPast before past after → StartsWith after.known past.known

-- What a worker knows, it goes on to know, over its own calls and over what it learns. It knows what it has learned.
abbrev pub KnowledgeIsKept : Type 0
KnowledgeIsKept = (before after : Knowledge) → IsKept before after

-- A call that knows of another call, through what workers hand on, comes after that call in what its worker then
-- knows, and so in each list that begins with this, as the list of the closed round does if the worker is handed
-- back.
abbrev pub LaterIsBehind : Type 0
LaterIsBehind = (earlier later : Call) → IsCall earlier → IsCall later → Knows later earlier
    → (front : List Entry) × (between : List Entry) × (earlier.after.known ≡ front ++ entry_of earlier ∷ [])
    × (later.after.known ≡ (front ++ entry_of earlier ∷ between) ++ entry_of later ∷ [])

-- Its reply is the right one after a list of calls that has all that the earlier worker knew, and there no count is
-- below those that this worker had seen.
abbrev pub LaterIsFresh : Type 0
LaterIsFresh = (earlier later : Call) → IsCall earlier → IsCall later → Knows later earlier
    → (calls : List Entry) × (later.after.known ≡ calls ++ entry_of later ∷ []) × StartsWith calls earlier.after.known
    × IsLegal later.before.setup.nodes later.before.setup.dest (moment later.before.setup calls) (entry_of later)
    × ((z : ℕ) → slice_index earlier.after.seen z ≤ reached later.before.setup calls z)

-- So a node x that has turned k times holds a node y later only where y has turned since: k times if the link pointed
-- first from y to x, and once more if it pointed first from x to y.
abbrev pub HeldAfterATurn : Type 0
HeldAfterATurn = (earlier later : Call) (k : ℕ) → IsCall earlier → IsCall later → Knows later earlier
    → IsNet later.before.setup.nodes later.before.setup.links
    → earlier.reply ≡ Turned k → later.reply ≡ Held earlier.node
    → (calls : List Entry) × (later.after.known ≡ calls ++ entry_of later ∷ [])
    × ((Points later.before.setup.links later.node earlier.node × (k ≤ reached later.before.setup calls later.node))
    ⊎ (Points later.before.setup.links earlier.node later.node × (k + 1 ≤ reached later.before.setup calls later.node)))

-- The destination never turns, so a node that has turned never holds it again: no stale reply says so.
abbrev pub NoneHoldsTheDestination : Type 0
NoneHoldsTheDestination = (earlier later : Call) (k : ℕ) → IsCall earlier → IsCall later → Knows later earlier
    → IsNet later.before.setup.nodes later.before.setup.links
    → earlier.reply ≡ Turned k → later.node ≡ later.before.setup.dest → later.reply ≡ Held earlier.node → ⊥
