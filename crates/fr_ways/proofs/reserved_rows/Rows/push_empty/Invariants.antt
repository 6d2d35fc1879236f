use Rattle.std.proofs.Common.{[], length, map, take, ℕ, ◌++◌, ◌+◌, ◌≡◌, ◌≤◌}
use Rattle.fr_ways.specs.Held.{HoldsAsMuch}
use Rattle.fr_ways.proofs.reserved_rows.Rows.push_empty.Given as goal

abbrev pub invariant-loop-x : goal.invariant-loop-x
invariant-loop-x l = record {
  pairs : l.self.pairs ≡ l.fn.self.pairs ++ map (λ (x : ℕ). (x, [])) (take l.x-index l.nodes);
  few : length l.self.pairs ≤ length l.fn.self.pairs + l.x-index;
  room : HoldsAsMuch l.fn.self l.self;
}
