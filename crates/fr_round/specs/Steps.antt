-- What each step on the words tells the worker that takes it. This project's own; the replies are those of full
-- reversal (E. Gafni and D. Bertsekas, 1981).
use Rattle.std.specs.Prelude.{◌≡◌, ◌≢◌, ℕ, ◌+◌, ◌<◌, ◌≤◌, List, [], ◌∷◌, ◌++◌, slice_index, slice_set}
use Rattle.atomic_table.specs.Table.{Me, Step}
use Rattle.fr_core.specs.History.{part}
use Rattle.fr_core.specs.declared.entry.Entry.{Entry}
use Rattle.fr_core.specs.declared.entry.Reply.{Reply}
use Rattle.fr_core.specs.declared.entry.Reply.TheVariants.{Turned, Held, Moved, Cut, Sink}
use Rattle.fr_round.specs.declared.view.Setup.{Setup}
use Rattle.fr_round.specs.declared.view.View.{View}
use Rattle.fr_round.specs.Rule.{closing_view}
use Rattle.fr_round.specs.Histories.{IsHistory, StartsWith, reached, entry}

-- a worker's known history is extended by what others did meanwhile
pub record Extends (b : Setup) (number : ℕ) (known : List Entry) (e : Entry) (known' : List Entry) : Type 0 where
  pub between : List Entry
  -- the extended history ends with this entry
  pub begins : known' ≡ (known ++ between) ++ e ∷ []
  -- it is a run of full reversal on one thread
  pub run : IsHistory b known'
  -- the worker's own part of it gains exactly this entry
  pub own : part number known' ≡ part number known ++ e ∷ []

-- a count is noted, and nothing else changes
abbrev pub noted : View → ℕ → ℕ → View
noted v y found = record v { seen = slice_set v.seen y found }

-- the same for the load that begins a call
abbrev pub begun : View → ℕ → ℕ → View
begun v x found = record v { seen = slice_set v.seen x found; node = x; count = found }

-- the step decides the call on x, and notes the count c of y
pub record EndsCall (v : View) (x : ℕ) (reply : Reply) (y c : ℕ) (w : View) : Type 0 where
  pub same : w ≡ record v { seen = slice_set v.seen y c; known = w.known }
  pub extends : Extends v.setup v.number v.known (entry v.number x reply) w.known
  pub below : (z : ℕ) → slice_index w.seen z ≤ reached v.setup w.known z

-- a worker comes to know a list of calls:
pub record CatchesUp (v : View) (known : List Entry) : Type 0 where
  -- what it knew, and what was handed to it, are beginnings of them,
  pub begins : StartsWith known v.known
  pub received : StartsWith known v.received
  -- they are a run of full reversal by one thread,
  pub run : IsHistory v.setup known
  -- its own calls among them are those that it knew,
  pub own : part v.number known ≡ part v.number v.known
  -- and no count that it has seen is above theirs
  pub below : (z : ℕ) → slice_index v.seen z ≤ reached v.setup known z

module _ {S : Type 0} where
  -- the load of the own count: at the cap it decides Cut, any other count begins the call
  abbrev pub own_loaded : Step S → Me S View → ℕ → Me S View → Type 0
  own_loaded s me found me' =
      (slice_index me.0.seen s.word ≤ found) × (found ≤ me.0.setup.nodes)
      × (found ≢ me.0.setup.nodes → me'.0 ≡ begun me.0 s.word found)
      × (found ≡ me.0.setup.nodes → EndsCall me.0 s.word Cut s.word found me'.0)
      × (me'.1 ≡ me.1)

  -- the load of a neighbour's count, whose bound is `more` above the own count: a lower count decides Held, any other
  -- is noted
  abbrev pub neighbour_loaded : ℕ → Step S → Me S View → ℕ → Me S View → Type 0
  neighbour_loaded more s me found me' =
      (slice_index me.0.seen s.word ≤ found) × (found ≤ me.0.setup.nodes)
      × (me.0.count + more ≤ found → me'.0 ≡ noted me.0 s.word found)
      × (found < me.0.count + more → EndsCall me.0 me.0.node (Held s.word) s.word found me'.0)
      × (me'.1 ≡ me.1)

  -- the exchange of the own count: Turned if it was unchanged, otherwise Moved
  abbrev pub exchange_made : Step S → Me S View → ℕ → Me S View → Type 0
  exchange_made s me found me' =
      (slice_index me.0.seen s.word ≤ found) × (found ≤ me.0.setup.nodes)
      × (found ≡ s.first → EndsCall me.0 s.word (Turned (s.first + 1)) s.word (s.first + 1) me'.0)
      × (found ≢ s.first → EndsCall me.0 s.word (Moved s.first found) s.word found me'.0)
      × (me'.1 ≡ me.1)

  -- the first load of a look, of the own count, which begins the call even at the cap
  abbrev pub look_begun : Step S → Me S View → ℕ → Me S View → Type 0
  look_begun s me found me' =
      (slice_index me.0.seen s.word ≤ found) × (found ≤ me.0.setup.nodes)
      × (me'.0 ≡ begun me.0 s.word found)
      × (me'.1 ≡ me.1)

  -- the second load of the own count in a look: Sink if it was unchanged, otherwise Moved
  abbrev pub look_ended : Step S → Me S View → ℕ → Me S View → Type 0
  look_ended s me found me' =
      (slice_index me.0.seen s.word ≤ found) × (found ≤ me.0.setup.nodes)
      × (found ≡ me.0.count → EndsCall me.0 s.word Sink s.word found me'.0)
      × (found ≢ me.0.count → EndsCall me.0 s.word (Moved me.0.count found) s.word found me'.0)
      × (me'.1 ≡ me.1)

  -- the load by which a worker catches up
  abbrev pub caught_up : Step S → Me S View → ℕ → Me S View → Type 0
  caught_up s me found me' = (me'.0 ≡ record me.0 { known = me'.0.known }) × CatchesUp me.0 me'.0.known × (me'.1 ≡ me.1)

  -- the load with which a closing seat enters
  abbrev pub closing_begun : Step S → Me S View → ℕ → Me S View → Type 0
  closing_begun s me found me' = me'.0 ≡ closing_view me.0.setup
