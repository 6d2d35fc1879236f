use Rattle.fr_node.proofs.Calls.{calls_keep_links}
use Rattle.fr_node.proofs.PathExample.{bound_is_reached}
use Rattle.fr_node.proofs.Paths.{down_path_is_quiet, link_bounds_announcements, path_bounds_announcements}
use Rattle.fr_node.proofs.Unheard.{unheard_are_announcements}
use Rattle.fr_node.proofs.laws.paths_law.Goals as goal

pub returns-clause-link : goal.returns-clause-link
returns-clause-link c = link_bounds_announcements

pub returns-clause-path : goal.returns-clause-path
returns-clause-path c = path_bounds_announcements

pub returns-clause-known : goal.returns-clause-known
returns-clause-known c = unheard_are_announcements

pub returns-clause-quiet : goal.returns-clause-quiet
returns-clause-quiet c = down_path_is_quiet

pub returns-clause-possible : goal.returns-clause-possible
returns-clause-possible c = bound_is_reached

pub returns-clause-calls : goal.returns-clause-calls
returns-clause-calls c = calls_keep_links
