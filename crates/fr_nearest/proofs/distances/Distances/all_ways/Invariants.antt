use Rattle.fr_nearest.specs.Order.{IsListing}
use Rattle.fr_nearest.proofs.distances.Distances.all_ways.Given as goal

abbrev pub invariant-loop-at : goal.invariant-loop-at
invariant-loop-at l =
    IsListing l.net l.self.table l.order.items l.starts.items l.ends.items l.list.items l.at
