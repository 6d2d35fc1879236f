use Rattle.fr_route.proofs.Determined.{one_hop}
use Rattle.fr_route.proofs.RoundEnds.{route_home}
use Rattle.fr_route.proofs.Routing.{route_joined, route_simple, route_unique}
use Rattle.fr_route.proofs.laws.route_law.Goals as goal

pub returns-clause-home : goal.returns-clause-home
returns-clause-home c =
    λ n d first s x net below round. (route_home n d first s net below round x, λ r. route_joined s.links d x r.0 r.1)

pub returns-clause-unique : goal.returns-clause-unique
returns-clause-unique c = route_unique

pub returns-clause-simple : goal.returns-clause-simple
returns-clause-simple c = route_simple

pub returns-clause-hop : goal.returns-clause-hop
returns-clause-hop c = one_hop
