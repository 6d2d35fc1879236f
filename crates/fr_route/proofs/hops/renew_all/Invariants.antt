use Rattle.std.proofs.Common.{Some, slice_get, ℕ, ◌<◌, ◌≡◌}
use Rattle.fr_route.specs.Outcomes.{state_after}
use Rattle.fr_route.specs.Routes.{IsHop}
use Rattle.fr_tables.specs.declared.hop.Hop.{Hop}
use Rattle.fr_route.proofs.hops.renew_all.Given as goal

abbrev pub invariant-loop-x : goal.invariant-loop-x
invariant-loop-x l = (y : ℕ) (hop : Hop) → slice_get l.hops y ≡ Some hop → y < l.x → IsHop (state_after l.round) y hop
