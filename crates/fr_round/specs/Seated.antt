-- A table with its opening seat, after so many numbers were given out. For proofs only.
use Rattle.std.specs.Prelude.{◌≡◌, ℕ, []}
use Rattle.atomic_table.specs.declared.shared.Shared.{Shared}
use Rattle.fr_round.specs.declared.view.View.{View}
use Rattle.fr_round.specs.declared.round_setup.RoundSetup.{RoundSetup}
use Rattle.fr_round.specs.declared.rule.Rule.{Rule}
use Rattle.fr_round.specs.Setups.{setup_of}
use Rattle.fr_round.specs.Rule.{opening_view}
use Rattle.fr_round.specs.Calls.{RoundSeat}

pub record IsTableOf (g : RoundSetup) (t : Shared (Unit {0}) View RoundSetup Rule) : Type 0 where
  pub key : t.key ≡ g
  pub words : t.table_id.words ≡ g.net.nodes
  pub slots : t.table_id.slots ≡ 0

-- the opening seat after so many numbers were given out
pub record IsNumbering (g : RoundSetup) (t : Shared (Unit {0}) View RoundSetup Rule) (p : RoundSeat) (k : ℕ) : Type 0 where
  pub table : IsTableOf g t
  pub seat_table : p.table_id ≡ t.table_id
  pub seat_empty : p.me.1 ≡ []
  pub view : p.me.0 ≡ record (opening_view (setup_of g)) { next = k }
