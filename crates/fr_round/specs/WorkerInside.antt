-- The value of a worker in contracts. For proofs only.
use Rattle.std.specs.Prelude.{◌≡◌, ℕ, ◌≤◌, true, [], slice_index}
use Rattle.fr_core.specs.History.{part, turn_count}
use Rattle.fr_round.specs.declared.worker.Worker.TheInside.{Inside}
use Rattle.fr_round.specs.Missing.{IsCounted}
use Rattle.fr_round.specs.Histories.{IsHistory, reached}
use Rattle.fr_round.specs.Knowledge.{Knowledge}

abbrev pub knowledge_of : Inside → Knowledge
knowledge_of w = record {
  table = w.caller.seat.table_id;
  setup = w.caller.seat.me.0.setup;
  number = w.number;
  known = w.caller.seat.me.0.known;
  seen = w.caller.seen.counts.items;
}

pub record IsSoundWorker (w : Inside) : Type 0 where
  pub works : w.caller.seat.me.0.works ≡ true
  pub no_slot : w.caller.seat.me.1 ≡ []
  pub noted : w.caller.seat.me.0.seen ≡ w.caller.seen.counts.items
  pub numbers : IsCounted w.caller.seat.me.0.setup.nodes w.caller.seat.me.0.setup.links w.caller.seen
  pub numbered : w.caller.seat.me.0.number ≡ w.number
  pub counted : w.turned ≡ turn_count (part w.number w.caller.seat.me.0.known)
  pub run : IsHistory w.caller.seat.me.0.setup w.caller.seat.me.0.known
  pub below : (z : ℕ)
      → slice_index w.caller.seen.counts.items z ≤ reached w.caller.seat.me.0.setup w.caller.seat.me.0.known z
