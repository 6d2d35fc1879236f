use Rattle.std.proofs.Common.{◌≡◌, ◌≤◌, ◌+◌, ◌++◌, drop, length, map, vec_capacity}
use Rattle.revroute_c.specs.Tables.{hop_of}
use Rattle.revroute_c.proofs.tables.table_of.Given as goal

abbrev pub invariant-loop-number : goal.invariant-loop-number
invariant-loop-number l = record {
  items : l.table.items ++ map hop_of (drop l.number-index l.numbers) ≡ map hop_of l.numbers;
  room : length l.table.items + length (drop l.number-index l.numbers) ≤ vec_capacity l.table;
}
