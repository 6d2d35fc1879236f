use Rattle.std.proofs.Common.{◌≡◌, ◌++◌, string_bytes}
use Rattle.std.specs.List.{flat_map, range_with_len}
use Rattle.revdot.specs.Changes.{new_ways}
use Rattle.revdot.proofs.changes.push_all_new_ways.Given as goal

abbrev pub invariant-loop-x : goal.invariant-loop-x
invariant-loop-x l =
    string_bytes l.story ≡ string_bytes l.fn.story ++ flat_map (new_ways l.old l.new) (range_with_len 0 l.x)
