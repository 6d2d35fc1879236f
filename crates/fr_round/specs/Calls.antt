-- What a call and its steps change in what a worker knows. This project's own. Contracts of public calls use only
-- `ShowsCount`; the laws use `IsWorker`, `IsInCall` and `AllMeet`; the rest is for proofs only.
use Rattle.std.specs.Prelude.{◌≡◌, ℕ, ◌+◌, ◌<◌, ◌≤◌, true, false, List, [], slice_index, replicate}
use Rattle.atomic_table.specs.Seated.{TableId}
use Rattle.atomic_table.specs.declared.shared.Seat.{Seat}
use Rattle.fr_graph.specs.Links.{Points}
use Rattle.fr_graph.specs.Rows.{row}
use Rattle.fr_graph.specs.declared.first.First.{First}
use Rattle.fr_core.specs.Machine.{bound_of, neighbour_at}
use Rattle.fr_core.specs.declared.entry.Reply.{Reply}
use Rattle.fr_core.specs.declared.entry.Reply.TheVariants.{Turned, Held, Moved, Cut, Sink}
use Rattle.fr_round.specs.declared.view.Setup.{Setup}
use Rattle.fr_round.specs.declared.view.View.{View}
use Rattle.fr_round.specs.declared.words.Words.{Words}
use Rattle.fr_round.specs.Histories.{reached, entry}
use Rattle.fr_round.specs.Steps.{Extends}

abbrev pub RoundSeat : Type 0
RoundSeat = Seat (Unit {0}) View

-- the view of a worker in a round of this setup
pub record IsWorker (b : Setup) (v : View) : Type 0 where
  pub works : v.works ≡ true
  pub setup : v.setup ≡ b

-- the count of x that the worker has seen after this reply
abbrev pub ShowsCount : ℕ → List ℕ → List ℕ → ℕ → Reply → Type 0
ShowsCount n before after x (Turned k) = slice_index after x ≡ k
ShowsCount n before after x (Held w) = Unit {0}
ShowsCount n before after x (Moved had k) = (slice_index after x ≡ k) × (slice_index before x ≤ had)
ShowsCount n before after x Cut = slice_index after x ≡ n
ShowsCount n before after x Sink = Unit {0}

-- a decided call on x
pub record IsCallMade (v : View) (x : ℕ) (reply : Reply) (w : View) : Type 0 where
  pub same : w ≡ record v { known = w.known; seen = w.seen; node = w.node; count = w.count }
  pub extends : Extends v.setup v.number v.known (entry v.number x reply) w.known
  pub below : (z : ℕ) → slice_index w.seen z ≤ reached v.setup w.known z
  pub up : (z : ℕ) → slice_index v.seen z ≤ slice_index w.seen z
  pub shows : ShowsCount v.setup.nodes v.seen w.seen x reply

-- the call on x continues, with the own count c, which was loaded
pub record IsLooking (v : View) (x c : ℕ) (w : View) : Type 0 where
  pub same : w ≡ record v { seen = w.seen; node = x; count = c }
  pub up : (z : ℕ) → slice_index v.seen z ≤ slice_index w.seen z
  pub own : slice_index w.seen x ≡ c

-- the first j neighbours of a row meet their bounds
abbrev pub AreEnough : List (ℕ × First) → ℕ → List ℕ → ℕ → Type 0
AreEnough neighbours j seen c = (i : ℕ) → i < j
    → bound_of (neighbour_at neighbours i).1 c ≤ slice_index seen (neighbour_at neighbours i).0

-- the same, and the first j neighbours of x were seen to meet their bounds
pub record IsUnderWay (b : Setup) (v : View) (x c j : ℕ) (w : View) : Type 0 where
  pub looking : IsLooking v x c w
  pub enough : AreEnough (row b.nodes b.links x) j w.seen c

-- a worker is in a call on x, with the own count c
pub record IsInCall (b : Setup) (x c : ℕ) (w : View) : Type 0 where
  pub worker : IsWorker b w
  pub node : w.node ≡ x
  pub count : w.count ≡ c
  pub own : slice_index w.seen x ≡ c
  pub in_range : x < b.nodes

-- a seat at the words of a round
pub record IsAtWords (words : Words) (seat : RoundSeat) : Type 0 where
  pub same : seat.table_id ≡ words.table.shared.table_id
  pub one_each : words.table.shared.table_id.words ≡ words.round_setup.net.nodes

-- a seat that takes workers back, at a table of words
pub record IsClosing (table : TableId) (seat : RoundSeat) : Type 0 where
  pub same : seat.table_id ≡ table
  pub some : 0 < table.words
  pub closes : seat.me.0.closes ≡ true
  pub idle : seat.me.0.works ≡ false
  pub not_opening : seat.me.0.opens ≡ false

-- the same seat at the same table, with the same slots
abbrev pub IsSameSeat : RoundSeat → RoundSeat → Type 0
IsSameSeat p q = (q.table_id ≡ p.table_id) × (q.id ≡ p.id) × (q.me.1 ≡ p.me.1)

-- the view of worker k before its first call
pub record IsNewView (v : View) (k : ℕ) : Type 0 where
  pub works : v.works ≡ true
  pub number : v.number ≡ k
  pub known : v.known ≡ []
  pub seen : v.seen ≡ replicate v.setup.nodes 0

-- every neighbour of x meets its bound
pub record AllMeet (first : List (ℕ × ℕ)) (counts : List ℕ) (x c : ℕ) : Type 0 where
  pub along : (w : ℕ) → Points first x w → c + 1 ≤ slice_index counts w
  pub against : (w : ℕ) → Points first w x → c ≤ slice_index counts w
