use Rattle.fr_tables.proofs.Orders.{beginning_closed, beginning_routed_first}
use Rattle.fr_tables.proofs.Pushing.{keeps_routes, still_arrives}
use Rattle.fr_tables.proofs.laws.route_law.Goals as goal

pub returns-clause-unlost : goal.returns-clause-unlost
returns-clause-unlost c =
    λ old new nodes table x closed routes pushed had. still_arrives old new nodes table pushed closed x routes had

pub returns-clause-kept : goal.returns-clause-kept
returns-clause-kept c =
    λ old new nodes table x closed first pushed had has. keeps_routes old new nodes table pushed closed x first had has

pub returns-clause-beginnings : goal.returns-clause-beginnings
returns-clause-beginnings c = beginning_routed_first

pub returns-clause-order : goal.returns-clause-order
returns-clause-order c = λ old new done left table x order pushed had has.
    keeps_routes old new done table pushed (beginning_closed old new done left order) x
    (beginning_routed_first old new done left order) had has
