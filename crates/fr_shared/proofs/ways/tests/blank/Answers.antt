use Rattle.fr_shared.proofs.WayTables.{blank_is_table, blank_sends}
use Rattle.fr_shared.proofs.ways.tests.blank.Goals as goal

pub returns : goal.returns
returns c = rw c.in_ok-table.ensures (blank_is_table 8, λ y z sends. absurd (blank_sends 8 y z sends))
