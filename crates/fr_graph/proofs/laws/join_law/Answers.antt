use Rattle.fr_graph.proofs.Joining.{one_way_free}
use Rattle.fr_graph.proofs.laws.join_law.Goals as goal

pub returns : goal.returns
returns c = one_way_free
