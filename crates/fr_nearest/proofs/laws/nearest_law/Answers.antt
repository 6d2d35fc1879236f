use Rattle.fr_nearest.proofs.Counting.{ways_within}
use Rattle.fr_nearest.proofs.Walking.{first_nearer, one_list, walk_shortest, ways_distinct}
use Rattle.fr_nearest.proofs.laws.nearest_law.Goals as goal

pub returns-clause-unique : goal.returns-clause-unique
returns-clause-unique c = one_list

pub returns-clause-few : goal.returns-clause-few
returns-clause-few c = ways_within

pub returns-clause-nearer : goal.returns-clause-nearer
returns-clause-nearer c = first_nearer

pub returns-clause-shortest : goal.returns-clause-shortest
returns-clause-shortest c = walk_shortest

pub returns-clause-loop_free : goal.returns-clause-loop_free
returns-clause-loop_free c = ways_distinct
