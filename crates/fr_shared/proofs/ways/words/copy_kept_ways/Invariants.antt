use Rattle.std.proofs.Common.{length, take, ◌≡◌, ◌≤◌}
use Rattle.std.specs.List.{filter}
use Rattle.fr_ways.specs.Phases.{is_way}
use Rattle.fr_shared.proofs.ways.words.copy_kept_ways.Given as goal

abbrev pub invariant-loop-y : goal.invariant-loop-y
invariant-loop-y l = record {
  few : l.count ≤ l.y-index;
  low : l.y-index ≤ length l.new;
  size : length l.list ≡ 5;
  front : take l.count l.list ≡ filter (is_way l.old) (take l.y-index l.new);
}
