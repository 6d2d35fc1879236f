use Rattle.std.proofs.Common.{◌-◌}
use Rattle.fr_core.specs.LevelSearch.{IsLevelSearch}
use Rattle.fr_core.proofs.levels.settle.Given as goal

abbrev pub invariant-loop-start : goal.invariant-loop-start
invariant-loop-start l = IsLevelSearch l.net.nodes l.dest l.net.links l.counts l.queue l.start l.start l.start l.count

abbrev pub decreases-loop-start : goal.decreases-loop-start
decreases-loop-start l = l.net.nodes - l.start
