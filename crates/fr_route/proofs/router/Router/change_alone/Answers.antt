use Rattle.fr_route.proofs.Tried.{placeless_fault, placeless_ok, placeless_on}
use Rattle.fr_route.proofs.router.Router.change_alone.Goals as goal

pub returns-clause-changed : goal.returns-clause-changed
returns-clause-changed c = rw c.without_edit_place.ensures (placeless_ok _ c.change.result c.change.ensures.made)

pub returns-clause-report : goal.returns-clause-report
returns-clause-report c = rw c.without_edit_place.ensures (placeless_ok _ c.change.result c.change.ensures.report)

pub returns-clause-unchanged : goal.returns-clause-unchanged
returns-clause-unchanged c = rw c.without_edit_place.ensures (placeless_on _ c.change.result c.change.ensures.unchanged)

pub returns-clause-fault : goal.returns-clause-fault
returns-clause-fault c =
    rw c.without_edit_place.ensures
    (placeless_fault c.args.self.now c.args.change c.change.result c.change.ensures.fault)
