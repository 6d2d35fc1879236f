use Rattle.fr_shared.proofs.WayWords.{ways_are_sound}
use Rattle.fr_shared.proofs.ways.open.Goals as goal

pub open_table-requires-clause-sound : goal.open_table-requires-clause-sound
open_table-requires-clause-sound c = ways_are_sound
