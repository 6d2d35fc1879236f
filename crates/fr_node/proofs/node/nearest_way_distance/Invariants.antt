use Rattle.fr_node.specs.Distances.{distance_over}
use Rattle.fr_node.specs.Links.{is_way}
use Rattle.fr_node.proofs.Least.{IsLeastOf}
use Rattle.fr_node.proofs.node.nearest_way_distance.Given as goal

abbrev pub invariant-loop-link : goal.invariant-loop-link
invariant-loop-link l = IsLeastOf (is_way l.own) distance_over l.links l.link-index l.nearest
