use Rattle.std.proofs.Common.{length, take, ◌≡◌, ◌≤◌}
use Rattle.fr_nearest.specs.Ranks.{AreRankedTo, IsOut}
use Rattle.fr_nearest.proofs.ways.rank_ways.Given as goal

abbrev pub invariant-loop-w : goal.invariant-loop-w
invariant-loop-w l = record {
  ranked : AreRankedTo IsOut l.distances l.row l.w-index (take l.count l.ranks);
  few : l.count ≤ l.w-index;
  same : length l.ranks ≡ length l.fn.ranks;
}
