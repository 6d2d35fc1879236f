use Rattle.std.proofs.Common.{drop, map, take, ◌++◌, ◌≡◌}
use Rattle.fr_nearest.specs.Ranks.{number_of}
use Rattle.fr_nearest.proofs.ways.ranks_to_numbers.Given as goal

abbrev pub invariant-loop-rank : goal.invariant-loop-rank
invariant-loop-rank l = l.ranks ≡ map number_of (take l.rank-index l.fn.ranks) ++ drop l.rank-index l.fn.ranks
