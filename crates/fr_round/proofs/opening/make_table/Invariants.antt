use Rattle.std.proofs.Common.{◌≡◌}
use Rattle.fr_round.specs.Setups.{setup_of}
use Rattle.fr_round.specs.Seated.{IsNumbering}
use Rattle.fr_round.specs.Knowledge.{new_workers}
use Rattle.fr_round.proofs.opening.make_table.Given as goal

abbrev pub invariant-loop-number : goal.invariant-loop-number
invariant-loop-number l = IsNumbering l.round_setup l.table.shared l.opening l.number
    × (l.workers.items ≡ new_workers l.table.shared.table_id (setup_of l.round_setup) l.number)
