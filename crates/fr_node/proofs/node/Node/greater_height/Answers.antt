use Rattle.fr_node.specs.declared.policy.Rise.TheVariants.{Full, Top}
use Rattle.fr_node.proofs.Policies.{rises_by}
use Rattle.fr_node.proofs.node.Node.greater_height.Goals as goal

pub returns-in-Full : goal.returns-in-Full
returns-in-Full c = rises_by Full c.args.self.now c.height_above_all.result c.in-Full.is c.height_above_all.ensures

pub returns-in-Top : goal.returns-in-Top
returns-in-Top c = rises_by (Top c.in-Top.ceiling) c.args.self.now c.height_at_top.result c.in-Top.is
    c.height_at_top.ensures
