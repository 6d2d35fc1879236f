use Rattle.std.proofs.Common.{◌≡◌}
use Rattle.test_callers.specs.Marks.{moment_of}
use Rattle.test_callers.proofs.connections.ConnectionStream.read.Given as goal

abbrev pub invariant-loop : goal.invariant-loop
invariant-loop g l =
    (goal.iterator-loop g).can_next l.iterator' × (goal.iterator-loop g).is_finite l.iterator'
    × (l.self.rest.now ≡ l.fn.self.rest.now) × (moment_of l.self.done ≡ moment_of l.fn.self.done)
    × (l.self.reads.items ≡ l.fn.self.reads.items)
