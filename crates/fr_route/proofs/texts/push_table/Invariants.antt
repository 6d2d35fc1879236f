use Rattle.std.proofs.Common.{◌≡◌, ◌++◌, drop, string_bytes}
use Rattle.fr_route.specs.Texts.{spaced_ways}
use Rattle.fr_route.proofs.texts.push_table.Given as goal

abbrev pub invariant-loop-x : goal.invariant-loop-x
invariant-loop-x l =
    string_bytes l.line ++ spaced_ways l.dest l.x (drop l.x l.table) ≡ string_bytes l.fn.line
    ++ spaced_ways l.dest 0 l.table
