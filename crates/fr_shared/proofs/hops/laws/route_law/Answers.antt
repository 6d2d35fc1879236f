use Rattle.fr_shared.proofs.HopPushing.{routes_kept}
use Rattle.fr_shared.proofs.hops.laws.route_law.Goals as goal

pub returns : goal.returns
returns c = record { kept = routes_kept }
