use Rattle.fr_ways.proofs.Nearest.{first_nearer, first_shortest}
use Rattle.fr_ways.proofs.laws.nearest_law.Goals as goal

pub returns-clause-nearer : goal.returns-clause-nearer
returns-clause-nearer c = first_nearer

pub returns-clause-shortest : goal.returns-clause-shortest
returns-clause-shortest c = first_shortest
