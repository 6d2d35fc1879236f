use Rattle.std.proofs.Common.{◌≡◌, ◌++◌, drop, string_bytes, true}
use Rattle.fr_route.specs.Json.{ways_items}
use Rattle.fr_route.proofs.json.push_table.Given as goal

abbrev pub invariant-loop-x : goal.invariant-loop-x
invariant-loop-x l = string_bytes l.line ++ ways_items l.dest l.x l.first (drop l.x l.table)
    ≡ string_bytes l.fn.line ++ ways_items l.dest 0 true l.table
