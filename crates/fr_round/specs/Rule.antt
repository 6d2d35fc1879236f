-- The rule of a round: one history explains the words and all that the seats know. This project's own, in the form that
-- the crate `atomic_table` asks for.
use Rattle.std.specs.Prelude.{◌≡◌, ℕ, ◌+◌, ◌<◌, ◌≤◌, true, false, List, [], ◌∷◌, ◌++◌, map, length, slice_index}
use Rattle.std.specs.Prelude.{replicate}
use Rattle.std.specs.List.{AllByRecursion as Each}
use mathlib.Core.Option.{some}
use lib.ListN.{get_elem?}
use Rattle.atomic_table.specs.Table.{State}
use Rattle.fr_graph.specs.Links.{IsNet}
use Rattle.fr_core.specs.History.{part}
use Rattle.fr_core.specs.declared.entry.Entry.{Entry}
use Rattle.fr_round.specs.declared.view.Setup.{Setup}
use Rattle.fr_round.specs.declared.view.View.{View}
use Rattle.fr_round.specs.Histories.{IsHistory, moment, StartsWith, AreApart}

-- The worker with this number has the seat j. No count that it has seen is greater than the word. What it knows has all of
-- its own calls.
pub record WorkerFits (b : Setup) (next : ℕ) (seat_of : ℕ → ℕ) (h : List Entry) (words : List ℕ) (j : ℕ)
    (v : View) : Type 0 where
  pub setup : v.setup ≡ b
  pub own : part v.number h ≡ part v.number v.known
  pub below : (y : ℕ) → slice_index v.seen y ≤ slice_index words y
  pub long : length v.seen ≡ b.nodes
  pub numbered : v.number < next
  pub placed : seat_of v.number ≡ j
  pub not_opening : v.opens ≡ false
  pub not_closing : v.closes ≡ false

-- a worker's number, and what it knew when it was taken back
pub record IsTaken (next : ℕ) (seat_of : ℕ → ℕ) (j : ℕ) (h : List Entry) (t : ℕ × List Entry) : Type 0 where
  pub begins : StartsWith h t.1
  pub own : part t.0 h ≡ part t.0 t.1
  pub placed : seat_of t.0 ≡ j
  pub numbered : t.0 < next

-- the only seat that gives out numbers
pub record OpeningFits (b : Setup) (next at j : ℕ) (v : View) : Type 0 where
  pub setup : v.setup ≡ b
  pub here : j ≡ at
  pub counts : v.next ≡ next

-- a seat that takes workers back and has taken no number twice
pub record ClosingFits (b : Setup) (next : ℕ) (seat_of : ℕ → ℕ) (h : List Entry) (j : ℕ) (v : View) : Type 0 where
  pub setup : v.setup ≡ b
  pub taken : Each (IsTaken next seat_of j h) v.taken
  pub apart : AreApart (map (λ (t : ℕ × List Entry). t.0) v.taken)

-- What a seat knows and what was handed to it are beginnings of the history. The rest holds for each kind of seat.
pub record ViewFits (b : Setup) (next : ℕ) (seat_of : ℕ → ℕ) (at : ℕ) (h : List Entry) (words : List ℕ) (j : ℕ)
    (v : View) : Type 0 where
  pub begins : StartsWith h v.known
  pub received : StartsWith h v.received
  pub worker : v.works ≡ true → WorkerFits b next seat_of h words j v
  pub opening : v.opens ≡ true → OpeningFits b next at j v
  pub closing : v.closes ≡ true → ClosingFits b next seat_of h j v

-- the words and the views of all seats: there is one history, it is a run that leads to the words, and each view fits
-- it
pub record KeepsRule {S : Type 0} (b : Setup) (s : State S View) : Type 0 where
  pub net : IsNet b.nodes b.links
  pub history : List Entry
  pub next : ℕ
  pub seat_of : ℕ → ℕ
  pub at : ℕ
  pub most : next ≤ b.workers
  pub run : IsHistory b history
  pub words : s.words ≡ (moment b history).counts
  pub given_out : Each (λ (e : Entry). e.worker < next) history
  pub views : (j : ℕ) (v : View) → get_elem? s.views j ≡ some v → ViewFits b next seat_of at history s.words j v

-- the same, with this list of calls as the history
abbrev pub HasList : {S : Type 0} → Setup → List Entry → State S View → Type 0
HasList b list s = (ruled : KeepsRule b s) × (ruled.history ≡ list)

-- the first view of the opening seat
abbrev pub opening_view : Setup → View
opening_view b = record {
  setup = b;
  works = false;
  number = 0;
  known = [];
  received = [];
  seen = [];
  node = 0;
  count = 0;
  opens = true;
  next = 0;
  closes = false;
  taken = [];
}

-- the view of the opening seat after one more number was given out
abbrev pub numbered_next : View → View
numbered_next v = record v { next = v.next + 1 }

-- the view of the new worker with this number
abbrev pub worker_view : View → View
worker_view v = record {
  setup = v.setup;
  works = true;
  number = v.next;
  known = [];
  received = [];
  seen = replicate v.setup.nodes 0;
  node = 0;
  count = 0;
  opens = false;
  next = 0;
  closes = false;
  taken = [];
}

-- the view of a seat that was joined with another one, and is not used again
abbrev pub spent_view : View
spent_view = record {
  setup = record { nodes = 0; dest = 0; links = []; workers = 0 };
  works = false;
  number = 0;
  known = [];
  received = [];
  seen = [];
  node = 0;
  count = 0;
  opens = false;
  next = 0;
  closes = false;
  taken = [];
}

-- the view of a seat that keeps what a worker knows, to hand it on
abbrev pub past_view : View → View
past_view v = record spent_view { setup = v.setup; known = v.known }

-- a worker's view, once that was handed to it
abbrev pub with_received : View → View → View
with_received v w = record v { received = w.known }

-- the first view of a closing seat
abbrev pub closing_view : Setup → View
closing_view b = record {
  setup = b;
  works = false;
  number = 0;
  known = [];
  received = [];
  seen = [];
  node = 0;
  count = 0;
  opens = false;
  next = 0;
  closes = true;
  taken = [];
}

-- the view of a closing seat after it has taken a worker back
abbrev pub with_taken : View → View → View
with_taken v w = record v { taken = v.taken ++ (w.number, w.known) ∷ [] }
