use Rattle.fr_ways.specs.Phases.{kept}
use Rattle.fr_shared.specs.WayTables.{last_ways}
use Rattle.fr_shared.specs.WayParts.{drops}
use Rattle.fr_shared.proofs.WayListing.{AreSeen}
use Rattle.fr_shared.proofs.ways.publishing.Publisher+LinkedList+u32.shrink_listed.Given as goal

abbrev pub invariant-loop-x : goal.invariant-loop-x
invariant-loop-x l = AreSeen l.fn.self l.self (drops l.emptied (last_ways l.fn.self) l.new)
    (kept (last_ways l.fn.self) l.new) l.nodes l.x-index
