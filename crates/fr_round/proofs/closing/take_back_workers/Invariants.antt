use Rattle.std.proofs.Common.{◌≡◌, vec_capacity}
use Rattle.std.specs.Vec.Iter.{into_iter_items}
use Rattle.fr_round.proofs.Gathering.{IsPartGathered}
use Rattle.fr_round.proofs.closing.take_back_workers.Given as goal

abbrev pub invariant-loop-worker : goal.invariant-loop-worker
invariant-loop-worker l =
    (goal.iterator-loop-worker).can_next l.worker-iterator
    × (goal.iterator-loop-worker).is_finite l.worker-iterator
    × IsPartGathered l.fn.seat l.seat l.fn.turned.items l.turned.items l.yielded (into_iter_items l.worker-iterator)
    l.fn.workers.items
    × (vec_capacity l.turned ≡ vec_capacity l.fn.turned)
