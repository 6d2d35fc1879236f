use Rattle.fr_node.specs.Links.{is_offer, offer_of}
use Rattle.fr_node.proofs.Least.{IsLeastOf}
use Rattle.fr_node.proofs.node.best_offer.Given as goal

abbrev pub invariant-loop-link : goal.invariant-loop-link
invariant-loop-link l = IsLeastOf (is_offer l.ceiling) offer_of l.links l.link-index l.best
