use Rattle.fr_node.proofs.Arrivals.{packets_arrive}
use Rattle.fr_node.proofs.laws.ways_law.Goals as goal

pub returns : goal.returns
returns c = packets_arrive
