use Rattle.std.proofs.Common.{arith, length, subst, ◌+◌, ◌-◌, ◌≡◌}
use Rattle.fr_route.proofs.CutNodes.{reported_cut}
use Rattle.fr_route.specs.Outcomes.{cut_off_nodes}
use Rattle.fr_route.specs.RouterInside.{state_of}
use Rattle.fr_route.specs.States.{State}
use Rattle.fr_route.proofs.router.Router.linked_cut_off.Goals as goal
use Rattle.fr_route.proofs.router.Router.linked_cut_off.Goals.{After-count_isolated_nodes}

-- the round reports the nodes without a link and those with links
parted : (c : After-count_isolated_nodes)
    → c.self.inside.report.cut ≡ c.count_isolated_nodes.result + length (cut_off_nodes (state_of c.self.inside))
parted c =
    let report = c.self.inside.report in
    rw c.count_isolated_nodes.ensures
    (reported_cut (state_of c.self.inside) c.self.invariant.round report.turned report.cut c.self.invariant.report)

pub overflow_sub-result : goal.overflow_sub-result
overflow_sub-result c = omega (arith, parted (goal.at.overflow_sub-result c).After-count_isolated_nodes)

pub returns : goal.returns
returns c =
    subst (λ (now : State). c.self.inside.report.cut - c.count_isolated_nodes.result
    ≡ length (cut_off_nodes now)) c.self.view_is
    (omega (arith, parted (goal.at.returns c).After-count_isolated_nodes))
