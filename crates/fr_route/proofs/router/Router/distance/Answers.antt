use Rattle.std.proofs.Common.{subst, sym, ℕ, ◌<◌}
use Rattle.fr_nearest.specs.Distances.{AreDistances}
use Rattle.fr_route.specs.NodeWays.{HasDistance, HasDistances}
use Rattle.fr_route.specs.RouterInside.{state_of}
use Rattle.fr_route.specs.States.{State}
use Rattle.fr_route.proofs.NodeWays.{distance_is}
use Rattle.fr_route.proofs.router.Router.distance.Goals as goal

pub returns-clause-distance : goal.returns-clause-distance
returns-clause-distance c =
    let x = c.args.x in
    let s : State = state_of c.self.inside in
    let below : x < s.nodes = subst (λ (now : State). x < now.nodes) (sym c.self.view_is) c.requires in
    let table = c.keep_from_now.new.self.table in
    let has : HasDistances s table = record {
      dest = c.keep_from_now.ensures.dest;
      table =
          subst (λ (d : ℕ). AreDistances s.nodes s.links d table.table) c.keep_from_now.ensures.dest
          c.keep_from_now.ensures.measured;
    } in
    subst (λ (now : State). HasDistance now x c.distance.result) c.self.view_is
    (distance_is s c.self.invariant.round table has x below c.distance.result c.distance.ensures)
