use Rattle.fr_route.proofs.router.Router.change_with_ways_alone.Goals as goal

pub invariant_of-reroutes : goal.invariant_of-reroutes
invariant_of-reroutes c = c.change.ensures.asks c.reroutes.invariant
