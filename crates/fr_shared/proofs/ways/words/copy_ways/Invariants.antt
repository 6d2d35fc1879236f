use Rattle.std.proofs.Common.{drop, length, take, ◌≡◌, ◌≤◌}
use Rattle.fr_shared.specs.WayTables.{ways_of}
use Rattle.fr_shared.proofs.ways.words.copy_ways.Given as goal

abbrev pub invariant-loop-k : goal.invariant-loop-k
invariant-loop-k l = record {
  low : l.k ≤ length (ways_of l.word);
  front : take l.k l.list ≡ take l.k (ways_of l.word);
  rest : drop l.k l.list ≡ drop l.k l.fn.list;
  size : length l.list ≡ 5;
}
