use Rattle.std.proofs.Common.{List, ℕ, take}
use Rattle.fr_nearest.specs.Order.{IsFilling, IsListing, PointsIntoOr, degree}
use Rattle.fr_nearest.proofs.all_ways.append_to_neighbours.Given as goal

abbrev pub invariant-loop-y : goal.invariant-loop-y
invariant-loop-y l = (table starts : List ℕ) → IsListing l.net table l.order starts l.fn.ends l.fn.list l.at
    → IsFilling (degree l.net) l.net.nodes table starts l.ends l.list
    (PointsIntoOr l.net.links (take l.at l.order) l.w (take l.y-index l.row))
