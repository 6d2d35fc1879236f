use Rattle.std.proofs.Common.{drop, length, ◌≡◌, ◌≤◌}
use Rattle.fr_shared.specs.WayTables.{digits_of}
use Rattle.fr_shared.proofs.ways.words.word.Given as goal

abbrev pub invariant-loop-k : goal.invariant-loop-k
invariant-loop-k l = record {
  low : l.k ≤ length l.ways;
  digits : l.digits ≡ digits_of (drop l.k l.ways);
}

abbrev pub decreases-loop-k : goal.decreases-loop-k
decreases-loop-k l = l.k
