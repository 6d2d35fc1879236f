use Rattle.std.proofs.Common.{arith, ℕ, ◌+◌, ◌<◌}
use Rattle.fr_route.specs.Outcomes.{state_after}
use Rattle.fr_route.specs.Routes.{IsHop}
use Rattle.fr_route.specs.States.{State}
use Rattle.fr_tables.specs.declared.hop.Hop.{Hop}
use Rattle.fr_route.proofs.Written.{written}
use Rattle.fr_route.proofs.hops.renew_all.Goals as goal

pub loop-x-preserved : goal.loop-x-preserved
loop-x-preserved c =
    let s : State = state_after c.args.round.now in
    let x : ℕ = c.loop-x.x in
    written (λ (y : ℕ) (hop : Hop). y < x + 1 → IsHop s y hop) c.loop-x.hops x c.hop_of.result (λ low. c.hop_of.ensures)
    (λ y hop apart at low. c.loop-x.invariant y hop at (omega (arith, low, apart)))
