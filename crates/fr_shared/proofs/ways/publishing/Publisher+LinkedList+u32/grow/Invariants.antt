use Rattle.std.proofs.Common.{◌≤◌}
use Rattle.fr_ways.specs.Ways.{ways}
use Rattle.fr_shared.specs.WayTables.{last_ways}
use Rattle.fr_shared.specs.WayParts.{changes}
use Rattle.fr_shared.proofs.WayPushing.{IsPushedBelow}
use Rattle.fr_shared.proofs.ways.publishing.Publisher+LinkedList+u32.grow.Given as goal

abbrev pub invariant-loop-x : goal.invariant-loop-x
invariant-loop-x l = record {
  low : l.x ≤ l.fn.self.nodes;
  pushed : IsPushedBelow l.fn.self l.self (changes (last_ways l.fn.self) l.new) (ways l.new) l.x;
}
