use Rattle.fr_node.proofs.Calls.{calls_keep_links_or_fall}
use Rattle.fr_node.proofs.HeightExample.{some_router_falls}
use Rattle.fr_node.proofs.Paths.{link_bounds_with_falls, path_bounds_with_falls}
use Rattle.fr_node.proofs.laws.lowering_law.Goals as goal

pub returns-clause-link : goal.returns-clause-link
returns-clause-link c = link_bounds_with_falls

pub returns-clause-path : goal.returns-clause-path
returns-clause-path c = path_bounds_with_falls

pub returns-clause-possible : goal.returns-clause-possible
returns-clause-possible c = some_router_falls

pub returns-clause-calls : goal.returns-clause-calls
returns-clause-calls c = calls_keep_links_or_fall
