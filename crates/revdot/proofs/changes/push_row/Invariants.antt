use Rattle.std.proofs.Common.{◌≡◌, ◌++◌, drop, string_bytes}
use Rattle.std.specs.List.{flat_map}
use Rattle.revdot.specs.Changes.{colon_number}
use Rattle.revdot.proofs.changes.push_row.Given as goal

abbrev pub invariant-loop-way : goal.invariant-loop-way
invariant-loop-way l =
    string_bytes l.story ++ flat_map colon_number (drop l.way-index l.row) ≡ string_bytes l.fn.story
    ++ flat_map colon_number l.row
