use Rattle.fr_nearest.proofs.Walking.{one_distance, one_table}
use Rattle.fr_nearest.proofs.laws.distance_law.Goals as goal

pub returns-clause-distance : goal.returns-clause-distance
returns-clause-distance c = one_distance

pub returns-clause-table : goal.returns-clause-table
returns-clause-table c = one_table
