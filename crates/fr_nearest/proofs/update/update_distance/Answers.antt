use Rattle.fr_nearest.proofs.Updating.{set_updates}
use Rattle.fr_nearest.proofs.update.update_distance.Goals as goal

pub returns-else-new-distances-clause-updated : goal.returns-else-new-distances-clause-updated
returns-else-new-distances-clause-updated c =
    let r = c.requires in
    let net = c.network_law.ensures in
    λ t. set_updates net.is_net net.limits.nodes_few r.one_each r.small r.node c.distance_by_links-new.ensures
    (c.set_distance.ensures.set t)
