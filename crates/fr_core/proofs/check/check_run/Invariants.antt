use Rattle.std.proofs.Common.{take}
use Rattle.fr_core.specs.Runs.{IsRunTo}
use Rattle.fr_core.proofs.check.check_run.Given as goal

abbrev pub invariant-loop-index : goal.invariant-loop-index
invariant-loop-index l = IsRunTo l.net.nodes l.dest l.net.links (take l.index l.entries) l.counts.items
