use Rattle.std.proofs.Common.{length, take, ◌≡◌, ◌≤◌}
use Rattle.fr_nearest.specs.Ranks.{AreRankedTo, WasOut}
use Rattle.fr_nearest.proofs.ways.rank_ways_before.Given as goal

abbrev pub invariant-loop-w : goal.invariant-loop-w
invariant-loop-w l = record {
  ranked : AreRankedTo (WasOut l.counts l.x) l.distances l.row l.w-index (take l.count l.ranks);
  few : l.count ≤ l.w-index;
  same : length l.ranks ≡ length l.fn.ranks;
}
