use Rattle.fr_shared.proofs.HopTables.{hops_are_sound}
use Rattle.fr_shared.proofs.hops.open.Goals as goal

pub open_table-requires-clause-sound : goal.open_table-requires-clause-sound
open_table-requires-clause-sound c = hops_are_sound
