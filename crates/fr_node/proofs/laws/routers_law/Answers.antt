use Rattle.fr_node.proofs.Descent.{never_a_loop}
use Rattle.fr_node.proofs.Example.{some_link_is_used}
use Rattle.fr_node.proofs.laws.routers_law.Goals as goal

pub returns-clause-safe : goal.returns-clause-safe
returns-clause-safe c = never_a_loop

pub returns-clause-possible : goal.returns-clause-possible
returns-clause-possible c = some_link_is_used
