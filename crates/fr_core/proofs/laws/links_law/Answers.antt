use Rattle.fr_core.proofs.Finishing.{links_at-zeros, zeros_lawful}
use Rattle.fr_core.proofs.SameLinks.{same_from_permutation, same_joined, same_lawful, same_links_at, same_settled}
use Rattle.fr_core.proofs.SameLinks.{same_sink}
use Rattle.fr_core.proofs.SensesByRow.{link_at-first_link}
use Rattle.fr_graph.proofs.Acyclic.{links_at_acyclic}
use Rattle.fr_graph.proofs.Building.{permuted_net}
use Rattle.fr_graph.proofs.Giving.{Points-links_at_back, Points-links_at_from}
use Rattle.fr_graph.proofs.TurnedLinks.{net_turned}
use Rattle.fr_core.proofs.laws.links_law.Goals as goal

pub returns-clause-acyclic : goal.returns-clause-acyclic
returns-clause-acyclic c = links_at_acyclic

pub returns-clause-comes : goal.returns-clause-comes
returns-clause-comes c =
    λ first counts u v. (Points-links_at_from first counts u v, Points-links_at_back first counts u v)

pub returns-clause-sense : goal.returns-clause-sense
returns-clause-sense c = link_at-first_link

pub returns-clause-net : goal.returns-clause-net
returns-clause-net c = λ n d first counts net lawful. net_turned n first counts lawful.kept net

pub returns-clause-start : goal.returns-clause-start
returns-clause-start c = λ n d first. (links_at-zeros n first, zeros_lawful n d first)

pub returns-clause-order : goal.returns-clause-order
returns-clause-order c = λ n d first other counts p.
    let same = same_from_permutation first other p in (
      permuted_net n first other p,
      same_lawful first other same n d counts,
      same_settled first other same n d counts,
      same_links_at first other same counts,
      same_joined first other same d,
      same_sink first other same,
    )
