use Rattle.fr_shared.specs.HopTables.{padded}
use Rattle.fr_shared.proofs.HopPushing.{IsPushedTo}
use Rattle.fr_shared.proofs.hops.publishing.Publisher+Hop.push_all.Given as goal

abbrev pub invariant-loop-x : goal.invariant-loop-x
invariant-loop-x l = IsPushedTo l.fn.self l.self (padded l.fn.self.nodes l.new) l.order l.x-index
