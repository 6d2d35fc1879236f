use Rattle.std.proofs.Common.{◌-◌, length}
use Rattle.fr_route.proofs.Walking.{HasWalked}
use Rattle.fr_route.proofs.router.Router.walk.Given as goal

abbrev pub invariant-hops : goal.invariant-hops
invariant-hops l = HasWalked l.self l.x l.at l.route.items

abbrev pub decreases-hops : goal.decreases-hops
decreases-hops l = l.self.nodes - length l.route.items
