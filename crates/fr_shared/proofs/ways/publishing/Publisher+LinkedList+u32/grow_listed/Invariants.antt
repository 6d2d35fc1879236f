use Rattle.fr_ways.specs.Ways.{ways}
use Rattle.fr_shared.specs.WayTables.{last_ways}
use Rattle.fr_shared.specs.WayParts.{changes}
use Rattle.fr_shared.proofs.WayListing.{AreSeen}
use Rattle.fr_shared.proofs.ways.publishing.Publisher+LinkedList+u32.grow_listed.Given as goal

abbrev pub invariant-loop-x : goal.invariant-loop-x
invariant-loop-x l = AreSeen l.fn.self l.self (changes (last_ways l.fn.self) l.new) (ways l.new) l.nodes l.x-index
