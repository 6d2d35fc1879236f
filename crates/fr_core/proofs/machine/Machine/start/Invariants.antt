use Rattle.std.proofs.Common.{map, ◌++◌, ◌≡◌}
use Rattle.std.specs.Vec.Iter.{into_iter_items}
use Rattle.fr_core.specs.Machine.{fresh}
use Rattle.fr_core.specs.Targets.{lists_of}
use Rattle.fr_core.proofs.machine.Machine.start.Given as goal

abbrev pub invariant-loop-list : goal.invariant-loop-list
invariant-loop-list l =
    l.workers.items ++ map fresh (lists_of (into_iter_items l.list-iterator)) ≡ map fresh (lists_of l.fn.targets.items)
