use Rattle.fr_node.proofs.Shortest.{lost_routers_know, routes_are_shortest}
use Rattle.fr_node.proofs.ShortestExample.{some_route_is_shortest}
use Rattle.fr_node.proofs.laws.shortest_law.Goals as goal

pub returns-clause-least : goal.returns-clause-least
returns-clause-least c = routes_are_shortest

pub returns-clause-lost : goal.returns-clause-lost
returns-clause-lost c = lost_routers_know

pub returns-clause-possible : goal.returns-clause-possible
returns-clause-possible c = some_route_is_shortest
