use Rattle.std.proofs.Common.{length, ◌-◌, ◌≤◌}
use Rattle.fr_route.specs.NodeWays.{AreWaysBelow}
use Rattle.fr_route.proofs.router.Router.ways_below.Given as goal

abbrev pub invariant-rows : goal.invariant-rows
invariant-rows l = record {
  are : AreWaysBelow l.self (length l.table) l.table;
  enough : l.self.nodes ≤ length l.table;
  few : length l.table ≤ l.count;
}

abbrev pub decreases-rows : goal.decreases-rows
decreases-rows l = l.count - length l.table
