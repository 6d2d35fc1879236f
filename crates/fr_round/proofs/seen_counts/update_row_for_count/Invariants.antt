use Rattle.fr_round.proofs.MissingNumbers.{IsCountedTo, IsLoweredTo}
use Rattle.fr_round.proofs.seen_counts.update_row_for_count.Given as goal

abbrev pub invariant-loop-neighbour : goal.invariant-loop-neighbour
invariant-loop-neighbour l = record {
  lowered : IsLoweredTo l.net.nodes l.net.links l.neighbour-items l.counts l.missing l.y l.count l.neighbour-index;
  counted : IsCountedTo l.neighbour-items l.counts l.count l.own l.neighbour-index;
}
