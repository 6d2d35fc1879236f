use Rattle.fr_node.proofs.Prefixes.{prefixes_have_no_loop, some_prefix_is_longer}
use Rattle.fr_node.proofs.laws.prefixes_law.Goals as goal

pub returns-clause-safe : goal.returns-clause-safe
returns-clause-safe c = prefixes_have_no_loop

pub returns-clause-possible : goal.returns-clause-possible
returns-clause-possible c = some_prefix_is_longer
