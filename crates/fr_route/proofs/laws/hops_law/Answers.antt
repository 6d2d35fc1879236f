use Rattle.fr_route.proofs.KeptRoutes.{change_keeps_routes, pushes_keep_routes, replacing_keeps_routes}
use Rattle.fr_route.proofs.SettledHops.{rerouted_told, settled_in_range, settled_loop_free}
use Rattle.fr_route.proofs.laws.hops_law.Goals as goal

pub returns-clause-no_loop : goal.returns-clause-no_loop
returns-clause-no_loop c = λ s hops after are. (settled_loop_free s hops after are, settled_in_range s hops after are)

pub returns-clause-told : goal.returns-clause-told
returns-clause-told c = rerouted_told

pub returns-clause-kept : goal.returns-clause-kept
returns-clause-kept c = change_keeps_routes

pub returns-clause-replaced : goal.returns-clause-replaced
returns-clause-replaced c = replacing_keeps_routes

pub returns-clause-pushed : goal.returns-clause-pushed
returns-clause-pushed c = pushes_keep_routes
