use Rattle.std.proofs.Common.{◌+◌, ◌≤◌}
use Rattle.std.specs.Prelude.{vec_capacity, vec_len}
use Rattle.fr_core.specs.Targets.{IsLookable}
use Rattle.fr_crew.proofs.Walking.{IsWalking}
use Rattle.fr_crew.proofs.live_walks.continue_walk.Given as goal

abbrev pub invariant-loop-made : goal.invariant-loop-made
invariant-loop-made l = record {
  walking : IsWalking l.fn.worker l.worker l.dest l.x l._made l.nodes.items l.here;
  node : IsLookable l.round.setup.nodes l.round.setup.links l.here;
  room : (vec_len l.nodes ≤ l._made + 1) × (l.limit + 1 ≤ vec_capacity l.nodes);
}
