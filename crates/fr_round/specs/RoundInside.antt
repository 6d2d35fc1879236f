-- The value of a round in contracts. For proofs only.
use Rattle.std.specs.Prelude.{◌≡◌, ◌<◌, ◌≤◌, [], length, vec_capacity}
use Rattle.fr_round.specs.declared.round.Round.TheInside.{Inside}
use Rattle.fr_round.specs.Setups.{setup_of}
use Rattle.fr_round.specs.Knowledge.{OpenRound}

abbrev pub open_round_of : Inside → OpenRound
open_round_of r = record { table = r.words.table.shared.table_id; setup = setup_of r.words.round_setup }

pub record IsSoundRound (r : Inside) : Type 0 where
  pub key : r.words.table.shared.key ≡ r.words.round_setup
  pub words : r.words.table.shared.table_id.words ≡ r.words.round_setup.net.nodes
  pub slots : r.words.table.shared.table_id.slots ≡ 0
  pub dest : r.words.round_setup.dest < r.words.round_setup.net.nodes
  pub room : length r.counts.items ≡ r.words.round_setup.net.nodes
  pub none_turned : r.turned.items ≡ []
  pub pairs : r.words.round_setup.workers ≤ vec_capacity r.turned
