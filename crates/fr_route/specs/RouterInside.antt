-- The value of a `Router` in contracts. For proofs only.
use Rattle.std.specs.Prelude.{◌≡◌, ◌<◌, length}
use Rattle.fr_route.specs.States.{State, IsAfterRound, IsReport, state_with}
use Rattle.fr_route.specs.KeptDistances.{KeepsDistances}
use Rattle.fr_route.specs.Routes.{AreHops}
use Rattle.fr_route.specs.declared.router.Router.TheInside.{Inside}

abbrev pub state_of : Inside → State
state_of r = state_with r.net r.dest r.turns

pub record IsSoundRouter (r : Inside) : Type 0 where
  pub dest : r.dest < r.net.nodes
  pub round : IsAfterRound (state_of r)
  pub one_each : length r.turns ≡ r.net.nodes
  pub hops : AreHops (state_of r) r.net.nodes r.forwarding.hops.items
  pub distances : KeepsDistances (state_of r) r.forwarding.distances
  pub room : r.forwarding.room ≡ r.net.nodes
  pub report : IsReport (state_of r) r.report.turned r.report.cut
