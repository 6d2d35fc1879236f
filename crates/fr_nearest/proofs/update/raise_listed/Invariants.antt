use Rattle.std.proofs.Common.{vec_capacity, ◌-◌, ◌≡◌}
use Rattle.fr_nearest.specs.Update.{IsRaising}
use Rattle.fr_nearest.proofs.update.raise_listed.Given as goal

abbrev pub invariant-loop-read : goal.invariant-loop-read
invariant-loop-read l = record {
  raising : IsRaising l.net l.dest l.fn.distances l.distances l.list.items l.read;
  room : vec_capacity l.list ≡ vec_capacity l.fn.list;
}

abbrev pub decreases-loop-read : goal.decreases-loop-read
decreases-loop-read l = l.net.nodes - l.read
