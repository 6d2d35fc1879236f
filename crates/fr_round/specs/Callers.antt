-- What the steps of a call need from its caller, and how they leave it. For proofs only.
use Rattle.std.specs.Prelude.{◌≡◌, ℕ, ◌<◌, ◌≤◌, Bool, MatchBool, slice_index}
use Rattle.fr_graph.specs.declared.first.First.{First}
use Rattle.fr_core.specs.Machine.{bound_of}
use Rattle.fr_core.specs.declared.entry.Reply.{Reply}
use Rattle.fr_core.specs.declared.entry.Reply.TheVariants.{Held}
use Rattle.fr_round.specs.declared.turn_call.CallingWorker.{CallingWorker}
use Rattle.fr_round.specs.declared.words.Words.{Words}
use Rattle.fr_round.specs.Setups.{setup_of}
use Rattle.fr_round.specs.Missing.{IsCounted}
use Rattle.fr_round.specs.Steps.{EndsCall, noted}
use Rattle.fr_round.specs.Knowledge.{Knowledge}
use Rattle.fr_round.specs.Calls.{AllMeet, IsAtWords, IsCallMade, IsLooking, IsSameSeat, IsWorker, RoundSeat}

-- what a caller has seen is what its seat knows, and its numbers are right
pub record ShowsSeen (words : Words) (p : CallingWorker) : Type 0 where
  pub counts : p.seat.me.0.seen ≡ p.seen.counts.items
  pub numbers : IsCounted words.round_setup.net.nodes words.round_setup.net.links p.seen

-- a worker of these words
pub record IsCaller (words : Words) (p : CallingWorker) : Type 0 where
  pub table : IsAtWords words p.seat
  pub worker : IsWorker (setup_of words.round_setup) p.seat.me.0
  pub seen : ShowsSeen words p

-- the same, for the value of a worker in contracts
pub record IsOfWords (words : Words) (k : Knowledge) : Type 0 where
  pub table : k.table ≡ words.table.shared.table_id
  pub one_each : words.table.shared.table_id.words ≡ words.round_setup.net.nodes
  pub setup : k.setup ≡ setup_of words.round_setup

-- a caller keeps its seat, and has what it has seen
pub record Stays (words : Words) (p q : CallingWorker) : Type 0 where
  pub seat : IsSameSeat p.seat q.seat
  pub seen : ShowsSeen words q

-- the count of a neighbour, an entry of a row, was loaded: the call continues if the neighbour meets its bound,
-- otherwise it ends
pub record LoadsNeighbour (p : RoundSeat) (entry : ℕ × First) (found : ℕ) (q : RoundSeat) : Type 0 where
  pub same : IsSameSeat p q
  pub up : slice_index p.me.0.seen entry.0 ≤ found
  pub low : found ≤ p.me.0.setup.nodes
  pub met : bound_of entry.1 p.me.0.count ≤ found → q.me.0 ≡ noted p.me.0 entry.0 found
  pub missed : found < bound_of entry.1 p.me.0.count → EndsCall p.me.0 p.me.0.node (Held entry.0) entry.0 found q.me.0

-- a neighbour of x was tested: the call continues if the neighbour meets its bound, otherwise it ends
pub record Tests (words : Words) (p : CallingWorker) (x c : ℕ) (entry : ℕ × First) (is_met : Bool) (q : CallingWorker) : Type 0 where
  pub stays : Stays words p q
  pub up : slice_index p.seat.me.0.seen entry.0 ≤ slice_index q.seat.me.0.seen entry.0
  pub step : MatchBool is_met
      ((bound_of entry.1 c ≤ slice_index q.seat.me.0.seen entry.0)
      × (q.seat.me.0 ≡ noted p.seat.me.0 entry.0 (slice_index q.seat.me.0.seen entry.0)))
      (EndsCall p.seat.me.0 x (Held entry.0) entry.0 (slice_index q.seat.me.0.seen entry.0) q.seat.me.0)

-- all neighbours of x were tested and meet their bounds, so the call continues
pub record Passes (words : Words) (p : CallingWorker) (x c : ℕ) (q : CallingWorker) : Type 0 where
  pub stays : Stays words p q
  pub looking : IsLooking p.seat.me.0 x c q.seat.me.0
  pub met : AllMeet words.round_setup.net.links q.seat.me.0.seen x c

-- a call on x was made
pub record Makes (words : Words) (p : CallingWorker) (x : ℕ) (reply : Reply) (q : CallingWorker) : Type 0 where
  pub stays : Stays words p q
  pub call : IsCallMade p.seat.me.0 x reply q.seat.me.0
