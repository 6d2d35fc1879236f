use Rattle.fr_node.specs.declared.policy.Rise.TheVariants.{Full, Top}
use Rattle.fr_node.proofs.Policies.{falls_by}
use Rattle.fr_node.proofs.node.Node.lower_height.Goals as goal

pub returns-in-Full : goal.returns-in-Full
returns-in-Full c = falls_by Full c.args.self.now c.height_at_distance.result c.in-Full.is c.height_at_distance.ensures

pub returns-in-Top : goal.returns-in-Top
returns-in-Top c = falls_by (Top c.in-Top.ceiling) c.args.self.now c.height_at_offer.result c.in-Top.is
    c.height_at_offer.ensures
