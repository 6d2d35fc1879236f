use Rattle.std.proofs.Common.{List, vec_capacity, ℕ, ◌-◌, ◌≡◌}
use Rattle.fr_nearest.specs.Update.{IsPending, KeepsOthers}
use Rattle.fr_nearest.proofs.update.update_listed.Given as goal

abbrev pub invariant-loop-at : goal.invariant-loop-at
invariant-loop-at l = record {
  pending : IsPending l.net l.dest l.distances l.list.items l.at;
  others : (before : List ℕ) → KeepsOthers before l.fn.distances l.fn.list.items
      → KeepsOthers before l.distances l.list.items;
  room : vec_capacity l.list ≡ vec_capacity l.fn.list;
}

abbrev pub decreases-loop-at : goal.decreases-loop-at
decreases-loop-at l = l.net.nodes - l.at
